-- What is kept of what is open, so that each record goes where what it answers went.
use Rattle.std.specs.Prelude.{◌≡◌, ℕ, Bool, true, List, ◌∷◌, Option, Some, None, ◌==◌, if◌then◌else◌}
use Rattle.std.specs.BTreeMap.{BTreeMap, get}
use Rattle.std.specs.Option.{option_map}
use Rattle.std.specs.Ordering.{nat_cmp}
use Rattle.hc_head.specs.declared.head.Target.{Target}
use Rattle.hc_transcript.specs.Items.{Item, Exchange, Forward}
use Rattle.hc_transcript.specs.History.{exchange_of, forward_of}
use Rattle.hc_parts.specs.Parts.{KeepsCause, goes_into}
use Rattle.hc_split.specs.declared.routes.Routes.{Routes}

module _ (part : Target → ℕ) where
  abbrev pub exchange_part : Exchange → ℕ
  exchange_part exchange = part exchange.target

  abbrev pub forward_part : Forward → ℕ
  forward_part forward = part forward.target

  -- the parts are kept of what the history leaves open
  pub record RoutesAs (routes : Routes) (h : List Item) : Type 0 where
    pub exchanges : (e : ℕ) → get nat_cmp routes.exchanges e ≡ option_map exchange_part (exchange_of e h)
    pub forwards : (f : ℕ) → get nat_cmp routes.forwards f ≡ option_map forward_part (forward_of f h)

  -- the next item goes into that part, as does the exchange that it was made for, and the parts are kept with it
  pub record IsRouted (routes : Routes) (h : List Item) (item : Item) (k : ℕ) : Type 0 where
    pub goes : goes_into part k h item ≡ true
    pub keeps : KeepsCause part h item
    pub routes_are : RoutesAs routes (item ∷ h)

-- ---- what private functions promise

-- a number has that part from now on, and the others have what they had
abbrev pub OpensRoute : ℕ → ℕ → BTreeMap ℕ ℕ → BTreeMap ℕ ℕ → Type 0
OpensRoute number k old new = (n : ℕ) → get nat_cmp new n ≡ (if number == n then Some k else get nat_cmp old n)

-- a number has none any more
abbrev pub ClosesRoute : ℕ → BTreeMap ℕ ℕ → BTreeMap ℕ ℕ → Type 0
ClosesRoute number old new = (n : ℕ) → get nat_cmp new n ≡ (if number == n then None else get nat_cmp old n)

-- whether what is kept of an exchange, if something is, is that part
abbrev pub is_that : Option ℕ → ℕ → Bool
is_that None k = true
is_that (Some other) k = other == k

-- whether the exchange that is told as a cause went into that part, as far as it is open
abbrev pub joins_by : BTreeMap ℕ ℕ → Option ℕ → ℕ → Bool
joins_by exchanges None k = true
joins_by exchanges (Some cause) k = is_that (get nat_cmp exchanges cause) k
