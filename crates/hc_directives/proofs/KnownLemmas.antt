-- What is known once every directive was read.
use Rattle.std.proofs.Common.{◌≡◌, ℕ, Bool, true, false, cond, ◌||◌, List, [], ◌∷◌, Option, Some, None, refl, ◌∙◌}
use Rattle.std.specs.Prelude.{codes}
use Rattle.hc_fields.specs.Numbers.{number_of}
use Rattle.hc_directives.specs.declared.cache_control.Seconds.{Seconds}
use Rattle.hc_directives.specs.declared.cache_control.Seconds.TheVariants.{Absent, Bare, Value, Unreadable}
use Rattle.hc_directives.specs.declared.known.KnownDirectives.{KnownDirectives}
use Rattle.hc_directives.specs.Directives.{Directive, is_named, has_directive, first_directive, seconds_read, seconds_of_argument, seconds_of}
use Rattle.hc_directives.specs.Known.{is_there, seconds_said, known_directives}
use Rattle.hc_directives.specs.KnownSteps.{first_seconds, none_known, with_directive, with_directives}

-- what was said before, or what the directives say where nothing was
seconds_after : Seconds → Seconds → Seconds
seconds_after Absent later = later
seconds_after Bare later = Bare
seconds_after (Value seconds) later = Value seconds
seconds_after Unreadable later = Unreadable

-- what is known where these directives follow the others, name by name
abbrev known_after : KnownDirectives → List Directive → KnownDirectives
known_after known ds = record {
  no_store = known.no_store || has_directive (codes "no-store") ds;
  no_cache = known.no_cache || has_directive (codes "no-cache") ds;
  private = known.private || has_directive (codes "private") ds;
  public = known.public || has_directive (codes "public") ds;
  must_understand = known.must_understand || has_directive (codes "must-understand") ds;
  must_revalidate = known.must_revalidate || has_directive (codes "must-revalidate") ds;
  proxy_revalidate = known.proxy_revalidate || has_directive (codes "proxy-revalidate") ds;
  only_if_cached = known.only_if_cached || has_directive (codes "only-if-cached") ds;
  s_maxage = seconds_after known.s_maxage (seconds_said (codes "s-maxage") ds);
  max_age = seconds_after known.max_age (seconds_said (codes "max-age") ds);
  max_stale = seconds_after known.max_stale (seconds_said (codes "max-stale") ds);
  min_fresh = seconds_after known.min_fresh (seconds_said (codes "min-fresh") ds);
  stale_while_revalidate = seconds_after known.stale_while_revalidate (seconds_said (codes "stale-while-revalidate") ds);
  stale_if_error = seconds_after known.stale_if_error (seconds_said (codes "stale-if-error") ds);
}

-- ---- one name

none_there : (there : Bool) → there ≡ (there || false)
none_there true = refl
none_there false = refl

there : (before now later : Bool) → ((before || now) || later) ≡ (before || (now || later))
there true now later = refl
there false now later = refl

none_said : (said : Seconds) → said ≡ seconds_after said Absent
unfolding seconds_after
none_said Absent = refl
none_said Bare = refl
none_said (Value seconds) = refl
none_said Unreadable = refl

-- a directive that is there says something
read_first : (number : Option ℕ) (later : Seconds) → seconds_after (seconds_read number) later ≡ seconds_read number
unfolding seconds_after
read_first None later = refl
read_first (Some n) later = refl

argument_first : (argument : Option (List ℕ)) (later : Seconds) → seconds_after (seconds_of_argument argument) later ≡ seconds_of_argument argument
unfolding seconds_after
argument_first None later = refl
argument_first (Some text) later = read_first (number_of text) later

said : (before : Seconds) (name : List ℕ) (d : Directive) (ds : List Directive) → seconds_after (first_seconds before name d) (seconds_said name ds) ≡ seconds_after before (seconds_said name (d ∷ ds))
unfolding seconds_after
said Absent name d ds = go (is_named name d)
  where
    go : (named : Bool) → seconds_after (cond named (seconds_of_argument d.argument) Absent) (seconds_said name ds) ≡ seconds_of (cond named (Some d) (first_directive name ds))
    go true = argument_first d.argument (seconds_said name ds)
    go false = refl
said Bare name d ds = refl
said (Value seconds) name d ds = refl
said Unreadable name d ds = refl

-- ---- all names

no_more : (known : KnownDirectives) → known ≡ known_after known []
no_more known = λ i. record {
  no_store = none_there known.no_store i;
  no_cache = none_there known.no_cache i;
  private = none_there known.private i;
  public = none_there known.public i;
  must_understand = none_there known.must_understand i;
  must_revalidate = none_there known.must_revalidate i;
  proxy_revalidate = none_there known.proxy_revalidate i;
  only_if_cached = none_there known.only_if_cached i;
  s_maxage = none_said known.s_maxage i;
  max_age = none_said known.max_age i;
  max_stale = none_said known.max_stale i;
  min_fresh = none_said known.min_fresh i;
  stale_while_revalidate = none_said known.stale_while_revalidate i;
  stale_if_error = none_said known.stale_if_error i;
}

one_more : (known : KnownDirectives) (d : Directive) (ds : List Directive) → known_after (with_directive known d) ds ≡ known_after known (d ∷ ds)
unfolding with_directive
one_more known d ds = λ i. record {
  no_store = there known.no_store (is_named (codes "no-store") d) (has_directive (codes "no-store") ds) i;
  no_cache = there known.no_cache (is_named (codes "no-cache") d) (has_directive (codes "no-cache") ds) i;
  private = there known.private (is_named (codes "private") d) (has_directive (codes "private") ds) i;
  public = there known.public (is_named (codes "public") d) (has_directive (codes "public") ds) i;
  must_understand = there known.must_understand (is_named (codes "must-understand") d) (has_directive (codes "must-understand") ds) i;
  must_revalidate = there known.must_revalidate (is_named (codes "must-revalidate") d) (has_directive (codes "must-revalidate") ds) i;
  proxy_revalidate = there known.proxy_revalidate (is_named (codes "proxy-revalidate") d) (has_directive (codes "proxy-revalidate") ds) i;
  only_if_cached = there known.only_if_cached (is_named (codes "only-if-cached") d) (has_directive (codes "only-if-cached") ds) i;
  s_maxage = said known.s_maxage (codes "s-maxage") d ds i;
  max_age = said known.max_age (codes "max-age") d ds i;
  max_stale = said known.max_stale (codes "max-stale") d ds i;
  min_fresh = said known.min_fresh (codes "min-fresh") d ds i;
  stale_while_revalidate = said known.stale_while_revalidate (codes "stale-while-revalidate") d ds i;
  stale_if_error = said known.stale_if_error (codes "stale-if-error") d ds i;
}

all_after : (known : KnownDirectives) (ds : List Directive) → with_directives known ds ≡ known_after known ds
all_after known [] = no_more known
all_after known (d ∷ ds) = all_after (with_directive known d) ds ∙ one_more known d ds

pub all_known : (ds : List Directive) → with_directives none_known ds ≡ known_directives ds
unfolding seconds_after
all_known ds = all_after none_known ds

-- ---- seconds that are there

read_there : (number : Option ℕ) → is_there (seconds_read number) ≡ true
read_there None = refl
read_there (Some n) = refl

argument_there : (argument : Option (List ℕ)) → is_there (seconds_of_argument argument) ≡ true
argument_there None = refl
argument_there (Some text) = read_there (number_of text)

pub seconds_are_there : (name : List ℕ) (directives : List Directive) → is_there (seconds_said name directives) ≡ has_directive name directives
seconds_are_there name [] = refl
seconds_are_there name (d ∷ ds) = go (is_named name d) (seconds_are_there name ds)
  where
    go : (named : Bool) → is_there (seconds_said name ds) ≡ has_directive name ds
        → is_there (seconds_of (cond named (Some d) (first_directive name ds))) ≡ (named || has_directive name ds)
    go true e = argument_there d.argument
    go false e = e
