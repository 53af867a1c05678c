-- Two targets that are told to be the same are.
use Rattle.std.proofs.Common.{◌≡◌, ℕ, Bool, true, ◌&&◌, List, refl, ap, ◌∙◌}
use Rattle.std.specs.Str.{bytes_eq}
use Rattle.std.proofs.lemmas.Bool.{and_parts}
use Rattle.std.proofs.lemmas.Slice.Eq.{bytes_eq-Decides}
use Rattle.hc_head.specs.declared.head.Target.{Target}
use Rattle.hc_head.specs.Targets.{same_target}

made : List ℕ → List ℕ → Target
made host path = record { host = host; path = path }

pub same_target_one : (one other : Target) → same_target one other ≡ true → one ≡ other
unfolding made
same_target_one one other same =
    let parts = and_parts (bytes_eq one.host other.host) (bytes_eq one.path other.path) same in
    ap (λ (h : List ℕ). made h one.path) ((bytes_eq-Decides one.host other.host).0 parts.0)
    ∙ ap (λ (p : List ℕ). made other.host p) ((bytes_eq-Decides one.path other.path).0 parts.1)

bytes_same : (text : List ℕ) → bytes_eq text text ≡ true
bytes_same text = (bytes_eq-Decides text text).1 refl

pub same_target_itself : (target : Target) → same_target target target ≡ true
same_target_itself target = ap (λ (b : Bool). b && bytes_eq target.path target.path) (bytes_same target.host) ∙ bytes_same target.path
