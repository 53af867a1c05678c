-- Octets that were read into a buffer, which is cut to them.
use Rattle.std.proofs.Common.{◌≡◌, ℕ, ◌≤◌, List, ◌++◌, length, take, arith, subst, ◌∙◌, ap}
use Rattle.std.proofs.Math.Seq.{take-append_seam}
use Rattle.std.proofs.lemmas.List.{length-take-le}

pub front_read : (n size : ℕ) (buffer more octets : List ℕ) → length buffer ≡ size → octets ≡ take n (take size (buffer ++ more)) → octets ≡ take n buffer
front_read n size buffer more octets is cut =
    cut ∙ ap (λ (o : List ℕ). take n o) (subst (λ (s : ℕ). take s (buffer ++ more) ≡ buffer) is (take-append_seam buffer more))

pub few_read : (n size most : ℕ) (buffer octets : List ℕ) → n ≤ length buffer → length buffer ≡ size → size ≡ most → octets ≡ take n buffer → length octets ≤ most
few_read n size most buffer octets few is same cut = omega (arith, few, is, same, ap length cut, length-take-le n buffer few)
