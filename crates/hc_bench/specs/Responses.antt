-- The responses that a store is given, and their targets.
use Rattle.std.specs.Prelude.{ℕ, List, [], ◌∷◌, ◌++◌, codes, decimal}
use Rattle.hc_fields.specs.declared.fields.Field.{Field}
use Rattle.hc_fields.specs.Values.{line}
use Rattle.hc_head.specs.declared.head.RequestHead.{RequestHead}
use Rattle.hc_head.specs.declared.head.ResponseHead.{ResponseHead}
use Rattle.hc_head.specs.declared.head.Target.{Target}
use Rattle.hc_head.specs.declared.head.Version.TheVariants.{Http11}
use Rattle.hc_framing.specs.declared.message.Message.{Message}
use Rattle.hc_update.specs.declared.stored.Stored.{Stored}
use Rattle.hc_update.specs.States.{initial_state}
use Rattle.hc_bench.specs.Messages.{filler}

-- the path of that number
abbrev pub path : ℕ → List ℕ
path number = codes "/" ++ decimal number

-- the target of that number, all of one host
abbrev pub target_of : ℕ → Target
target_of number = record { host = codes "h"; path = path number }

-- the fields of each request
abbrev pub request_fields : List Field
request_fields = line (codes "host") (codes "h") ∷ []

-- a GET for the target of that number
abbrev pub forward : ℕ → RequestHead
forward number = record { method = codes "GET"; target = path number; version = Http11; fields = request_fields }

-- the fields of each response, which is fresh for ten minutes
abbrev pub response_fields : List Field
response_fields =
    line (codes "date") (codes "Thu, 01 Jan 1970 00:16:40 GMT") ∷ line (codes "cache-control") (codes "max-age=600")
    ∷ line (codes "last-modified") (codes "Thu, 01 Jan 1970 00:00:00 GMT") ∷ []

-- a response with them, and a short body
abbrev pub response : Message ResponseHead
response = record {
  head = record { status = 200; version = Http11; fields = response_fields };
  body = filler 100;
}

-- what is stored of it, at the moment of its date
unfoldable pub stored_of : ℕ → Stored
stored_of number = initial_state (forward number) 1000 response 1000
