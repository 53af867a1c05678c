-- The known directives read one by one. These definitions are what private functions return.
use Rattle.std.specs.Prelude.{ℕ, false, ◌||◌, List, [], ◌∷◌, codes, if◌then◌else◌}
use Rattle.hc_directives.specs.declared.cache_control.Seconds.{Seconds}
use Rattle.hc_directives.specs.declared.cache_control.Seconds.TheVariants.{Absent, Bare, Value, Unreadable}
use Rattle.hc_directives.specs.declared.known.KnownDirectives.{KnownDirectives}
use Rattle.hc_directives.specs.Directives.{Directive, is_named, seconds_of_argument}

-- the seconds that the first directive of that name says, where this one follows those that said what was said before
abbrev pub first_seconds : Seconds → List ℕ → Directive → Seconds
first_seconds Absent name d = if is_named name d then seconds_of_argument d.argument else Absent
first_seconds Bare name d = Bare
first_seconds (Value seconds) name d = Value seconds
first_seconds Unreadable name d = Unreadable

-- what is known where no directive is there
abbrev pub none_known : KnownDirectives
none_known = record {
  no_store = false;
  no_cache = false;
  private = false;
  public = false;
  must_understand = false;
  must_revalidate = false;
  proxy_revalidate = false;
  only_if_cached = false;
  s_maxage = Absent;
  max_age = Absent;
  max_stale = Absent;
  min_fresh = Absent;
  stale_while_revalidate = Absent;
  stale_if_error = Absent;
}

-- what is known where this directive follows the others
unfoldable pub with_directive : KnownDirectives → Directive → KnownDirectives
with_directive known d = record {
  no_store = known.no_store || is_named (codes "no-store") d;
  no_cache = known.no_cache || is_named (codes "no-cache") d;
  private = known.private || is_named (codes "private") d;
  public = known.public || is_named (codes "public") d;
  must_understand = known.must_understand || is_named (codes "must-understand") d;
  must_revalidate = known.must_revalidate || is_named (codes "must-revalidate") d;
  proxy_revalidate = known.proxy_revalidate || is_named (codes "proxy-revalidate") d;
  only_if_cached = known.only_if_cached || is_named (codes "only-if-cached") d;
  s_maxage = first_seconds known.s_maxage (codes "s-maxage") d;
  max_age = first_seconds known.max_age (codes "max-age") d;
  max_stale = first_seconds known.max_stale (codes "max-stale") d;
  min_fresh = first_seconds known.min_fresh (codes "min-fresh") d;
  stale_while_revalidate = first_seconds known.stale_while_revalidate (codes "stale-while-revalidate") d;
  stale_if_error = first_seconds known.stale_if_error (codes "stale-if-error") d;
}

-- what is known where these directives follow the others
abbrev pub with_directives : KnownDirectives → List Directive → KnownDirectives
with_directives known [] = known
with_directives known (d ∷ ds) = with_directives (with_directive known d) ds
