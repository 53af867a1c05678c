use Rattle.std.proofs.Common.{◌≡◌, ℕ, IfSome, None, subst}
use Rattle.hc_past.specs.Naming.{HasNone, IsNamed, IsOfOneOf, first_after, named_after}
use Rattle.hc_past.proofs.NamingLemmas.{breaks_wrong, named_is, none_first, none_named, one_named}
use Rattle.hc_past.proofs.wrongs.Wrong.read.Goals as goal

pub returns-clause-breaks : goal.returns-clause-breaks
returns-clause-breaks g c = λ format h seen are failed.
    let nearest = c.in_ok-read-2.field-0 in
    let named : IfSome nearest (IsNamed c.args.claim.now h (named_after c.args.reason c.args.claim.now)) =
    subst (λ (n : ℕ). IfSome nearest (IsNamed c.args.claim.now h n)) c.named_after.ensures
    (named_is c.args.claim.now h c.args.candidates.now _ _ nearest are c.named-named.ensures.some (c.named-named.ensures.preferred format h seen are)
    (c.in_ok-read-2.ensures.told format h seen)) in
    breaks_wrong c.args.claim.now h c.args.reason nearest named failed

pub returns-clause-first : goal.returns-clause-first
returns-clause-first g c = λ format h seen each none.
    let candidates = c.args.candidates.now in
    let named = c.named-named in
    subst (λ (n : ℕ). first_after n candidates ≡ None) c.named_after.ensures
    (none_first c.args.claim.now h candidates c.named_after.result named.result c.in_ok-read-2.field-0 each named.ensures.some named.ensures.none
    (c.in_ok-read-2.ensures.there format h seen) none)

pub returns-clause-named : goal.returns-clause-named
returns-clause-named g c = λ format h seen are.
    let claim = c.args.claim.now in
    let nearest = c.in_ok-read-2.field-0 in
    subst (λ (n : ℕ). IfSome nearest (IsNamed claim h n)) c.named_after.ensures
    (named_is claim h c.args.candidates.now _ _ nearest are c.named-named.ensures.some (c.named-named.ensures.preferred format h seen are) (c.in_ok-read-2.ensures.told format h seen))

pub returns-clause-there : goal.returns-clause-there
returns-clause-there g c = λ format h seen are none.
    let claim = c.args.claim.now in
    let named = c.named-named in
    subst (λ (n : ℕ). HasNone claim h n) c.named_after.ensures
    (none_named claim h c.args.candidates.now c.named_after.result named.result c.in_ok-read-2.field-0 are named.ensures.some named.ensures.none
    (c.in_ok-read-2.ensures.there format h seen) none)

pub returns-clause-told : goal.returns-clause-told
returns-clause-told g c = λ format h seen.
    let claim = c.args.claim.now in
    let candidates = c.args.candidates.now in
    let nearest = c.in_ok-read-2.field-0 in
    subst (λ (n : ℕ). IfSome nearest (IsOfOneOf claim h candidates n)) c.named_after.ensures
    (one_named claim h candidates _ _ nearest c.named-named.ensures.some (c.in_ok-read-2.ensures.told format h seen))
