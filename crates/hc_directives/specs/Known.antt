-- The directives that the rules of a cache ask for (RFC 9111 section 5.2, RFC 5861 sections 3 and 4).
use Rattle.std.specs.Prelude.{ℕ, Bool, true, false, List, codes}
use Rattle.hc_directives.specs.declared.cache_control.Seconds.{Seconds}
use Rattle.hc_directives.specs.declared.cache_control.Seconds.TheVariants.{Absent, Bare, Value, Unreadable}
use Rattle.hc_directives.specs.declared.known.KnownDirectives.{KnownDirectives}
use Rattle.hc_directives.specs.Directives.{Directive, has_directive, first_directive, seconds_of}

-- whether a directive has the name, whatever it says
abbrev pub is_there : Seconds → Bool
is_there Absent = false
is_there Bare = true
is_there (Value seconds) = true
is_there Unreadable = true

-- the seconds that the first directive of that name says
abbrev pub seconds_said : List ℕ → List Directive → Seconds
seconds_said name directives = seconds_of (first_directive name directives)

-- what the directives say of each name that a rule asks for
abbrev pub known_directives : List Directive → KnownDirectives
known_directives directives = record {
  no_store = has_directive (codes "no-store") directives;
  no_cache = has_directive (codes "no-cache") directives;
  private = has_directive (codes "private") directives;
  public = has_directive (codes "public") directives;
  must_understand = has_directive (codes "must-understand") directives;
  must_revalidate = has_directive (codes "must-revalidate") directives;
  proxy_revalidate = has_directive (codes "proxy-revalidate") directives;
  only_if_cached = has_directive (codes "only-if-cached") directives;
  s_maxage = seconds_said (codes "s-maxage") directives;
  max_age = seconds_said (codes "max-age") directives;
  max_stale = seconds_said (codes "max-stale") directives;
  min_fresh = seconds_said (codes "min-fresh") directives;
  stale_while_revalidate = seconds_said (codes "stale-while-revalidate") directives;
  stale_if_error = seconds_said (codes "stale-if-error") directives;
}
