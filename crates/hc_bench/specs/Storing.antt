-- Stores that are filled, asked and given responses.
use Rattle.std.specs.Prelude.{ℕ, true, zero, suc, ◌*◌, ◌%◌, List, [], ◌∷◌, ◌++◌, Option, Some, None}
use Rattle.std.specs.List.{fold}
use Rattle.std.specs.Option.{option_map}
use Rattle.hc_fields.specs.declared.fields.Field.{Field}
use Rattle.hc_head.specs.declared.head.Target.{Target}
use Rattle.hc_update.specs.declared.stored.Stored.{Stored}
use Rattle.hc_store.specs.Entries.{Holdings, empty, variants_of}
use Rattle.hc_store.specs.Choosing.{chosen}
use Rattle.hc_store.specs.Changes.{after_choose, after_put}
use Rattle.hc_store.specs.Calls.{holding}
use Rattle.hc_bench.specs.Responses.{stored_of, target_of}

-- the number of the target that comes behind so many, of so many targets
abbrev pub number_at : ℕ → ℕ → ℕ
number_at keys before = before * 7919 % keys

-- responses for so many targets, of so many different ones in turn, each with its target
abbrev pub responses : ℕ → ℕ → List (Target × Stored)
responses keys zero = []
responses keys (suc before) =
    responses keys before ++ (target_of (number_at keys before), stored_of (number_at keys before)) ∷ []

-- a store that was given a response
abbrev pub given : Target → Stored → Holdings → Holdings
given target stored store = holding (after_put store.keys store.bytes target stored store.entries) store

-- a store of so many keys that was given the first so many responses
abbrev pub filled : ℕ → ℕ → Holdings
filled keys zero = empty keys 67108864 true
filled keys (suc number) = given (target_of number) (stored_of number) (filled keys number)

-- a store behind the question for a target, if it has a response for it
abbrev pub behind_question : List Field → Option Holdings → Target → Option Holdings
behind_question presented None target = None
behind_question presented (Some store) target =
    option_map (λ stored. holding (after_choose target store.entries) store) (chosen presented (variants_of target store.entries))

-- and behind those for all of their targets in turn
abbrev pub behind_all : List Field → List (Target × Stored) → Holdings → Option Holdings
behind_all presented responses store = fold (λ before response. behind_question presented before response.0) (Some store) responses

-- a store that was given all of them in turn
abbrev pub given_all : List (Target × Stored) → Holdings → Holdings
given_all responses store = fold (λ before response. given response.0 response.1 before) store responses
