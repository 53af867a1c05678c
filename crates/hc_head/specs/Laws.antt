-- The laws of heads: octets begin with one head at most, which ends with its first empty line, and what follows doesn't change it.
use Rattle.std.specs.Prelude.{◌≢◌}
use Rattle.std.proofs.Common.{◌≡◌, ℕ, ◌+◌, ◌-◌, ◌<◌, ◌≤◌, List, [], ◌++◌, length, take, sym, ap, ◌∙◌, arith, length-append}
use Rattle.std.proofs.Math.Seq.{take-append-add}
use Rattle.httparse.specs.Grammar.{RequestHead as RequestSyntax, print_request, ResponseHead as ResponseSyntax, print_response}
use Rattle.httparse.proofs.GrammarLemmas.{request_prefix_free, print_request-append, ReadsRequest-append, response_prefix_free, print_response-append, ReadsResponse-append}
use Rattle.hc_head.specs.declared.empty_line.Search.TheVariants.{Blank, Found}
use Rattle.hc_head.specs.declared.head.RequestHead.{RequestHead}
use Rattle.hc_head.specs.declared.head.ResponseHead.{ResponseHead}
use Rattle.hc_head.specs.EmptyLine.{searched}
use Rattle.hc_head.specs.EmptyLineLaws.{request_ends, response_ends, found_at_end, not_found_before}
use Rattle.hc_head.specs.Heads.{request_head_of, BeginsRequestHead, response_head_of, BeginsResponseHead}

-- ---- requests

pub request_unique : (octets more : List ℕ) (h k : RequestHead) (m n : ℕ)
    → BeginsRequestHead octets h m → BeginsRequestHead (octets ++ more) k n → (h ≡ k) × (m ≡ n)
request_unique octets more h k m n p q =
    let same = request_prefix_free octets more p.syntax q.syntax p.rest q.rest p.reads q.reads in
    (p.head_is ∙ ap request_head_of same.0 ∙ sym q.head_is, p.len_is ∙ ap (λ (s : RequestSyntax). length (print_request s)) same.0 ∙ sym q.len_is)

pub request_goes_on : (octets more : List ℕ) (h : RequestHead) (n : ℕ) → BeginsRequestHead octets h n → BeginsRequestHead (octets ++ more) h n
request_goes_on octets more h n p = record {
  syntax = p.syntax;
  rest = p.rest ++ more;
  reads = ReadsRequest-append octets p.syntax p.rest more p.reads;
  len_is = p.len_is;
  head_is = p.head_is;
}

pub request_within : (octets : List ℕ) (h : RequestHead) (n : ℕ) → BeginsRequestHead octets h n → n ≤ length octets
request_within octets h n p = omega (arith, p.len_is, ap length p.reads.1, length-append (print_request p.syntax) p.rest)

pub request_some : (octets : List ℕ) (h : RequestHead) (n : ℕ) → BeginsRequestHead octets h n → 0 < n
request_some octets h n p =
    omega (arith, p.len_is, ap length (print_request-append p.syntax []), length-append {A = ℕ}, p.reads.0.method.0)

pub request_front : (octets : List ℕ) (m : ℕ) (h : RequestHead) (n : ℕ) → n ≤ m → BeginsRequestHead octets h n → BeginsRequestHead (take m octets) h n
request_front octets m h n le p =
    let printed = print_request p.syntax in
    let enough : m ≡ length printed + (m - n) = omega (arith, p.len_is) in
    let front : take m octets ≡ printed ++ take (m - n) p.rest =
    ap (take m) p.reads.1 ∙ ap (λ (k : ℕ). take k (printed ++ p.rest)) enough ∙ take-append-add printed p.rest (m - n) in
    record { syntax = p.syntax; rest = take (m - n) p.rest; reads = (p.reads.0, front); len_is = p.len_is; head_is = p.head_is }

pub request_ends_with_empty_line : (octets : List ℕ) (h : RequestHead) (n : ℕ) → BeginsRequestHead octets h n → searched Blank (take n octets) ≡ Found
request_ends_with_empty_line octets h n p =
    found_at_end octets (print_request p.syntax) p.rest n p.reads.1 p.len_is (request_ends p.syntax p.reads.0)

pub request_at_its_first : (octets : List ℕ) (h : RequestHead) (n : ℕ) → BeginsRequestHead octets h n
    → (k : ℕ) → k < n → searched Blank (take k octets) ≢ Found
request_at_its_first octets h n p =
    not_found_before octets (print_request p.syntax) p.rest n p.reads.1 p.len_is (request_ends p.syntax p.reads.0)

-- ---- responses

pub response_unique : (octets more : List ℕ) (h k : ResponseHead) (m n : ℕ)
    → BeginsResponseHead octets h m → BeginsResponseHead (octets ++ more) k n → (h ≡ k) × (m ≡ n)
response_unique octets more h k m n p q =
    let same = response_prefix_free octets more p.syntax q.syntax p.rest q.rest p.reads q.reads in
    (p.head_is ∙ ap response_head_of same.0 ∙ sym q.head_is, p.len_is ∙ ap (λ (s : ResponseSyntax). length (print_response s)) same.0 ∙ sym q.len_is)

pub response_goes_on : (octets more : List ℕ) (h : ResponseHead) (n : ℕ) → BeginsResponseHead octets h n → BeginsResponseHead (octets ++ more) h n
response_goes_on octets more h n p = record {
  syntax = p.syntax;
  rest = p.rest ++ more;
  reads = ReadsResponse-append octets p.syntax p.rest more p.reads;
  len_is = p.len_is;
  head_is = p.head_is;
  has_status = p.has_status;
}

pub response_within : (octets : List ℕ) (h : ResponseHead) (n : ℕ) → BeginsResponseHead octets h n → n ≤ length octets
response_within octets h n p = omega (arith, p.len_is, ap length p.reads.1, length-append (print_response p.syntax) p.rest)

pub response_some : (octets : List ℕ) (h : ResponseHead) (n : ℕ) → BeginsResponseHead octets h n → 0 < n
response_some octets h n p =
    omega (arith, p.len_is, ap length (print_response-append p.syntax []), length-append {A = ℕ}, p.reads.0.digits.0)

pub response_front : (octets : List ℕ) (m : ℕ) (h : ResponseHead) (n : ℕ) → n ≤ m → BeginsResponseHead octets h n → BeginsResponseHead (take m octets) h n
response_front octets m h n le p =
    let printed = print_response p.syntax in
    let enough : m ≡ length printed + (m - n) = omega (arith, p.len_is) in
    let front : take m octets ≡ printed ++ take (m - n) p.rest =
    ap (take m) p.reads.1 ∙ ap (λ (k : ℕ). take k (printed ++ p.rest)) enough ∙ take-append-add printed p.rest (m - n) in
    record { syntax = p.syntax; rest = take (m - n) p.rest; reads = (p.reads.0, front); len_is = p.len_is; head_is = p.head_is; has_status = p.has_status }

pub response_ends_with_empty_line : (octets : List ℕ) (h : ResponseHead) (n : ℕ) → BeginsResponseHead octets h n → searched Blank (take n octets) ≡ Found
response_ends_with_empty_line octets h n p =
    found_at_end octets (print_response p.syntax) p.rest n p.reads.1 p.len_is (response_ends p.syntax p.reads.0)

pub response_at_its_first : (octets : List ℕ) (h : ResponseHead) (n : ℕ) → BeginsResponseHead octets h n
    → (k : ℕ) → k < n → searched Blank (take k octets) ≢ Found
response_at_its_first octets h n p =
    not_found_before octets (print_response p.syntax) p.rest n p.reads.1 p.len_is (response_ends p.syntax p.reads.0)
