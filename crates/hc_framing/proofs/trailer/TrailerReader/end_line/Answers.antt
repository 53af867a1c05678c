use Rattle.std.proofs.Common.{◌≡◌, ℕ, List, [], ◌∷◌, ◌++◌, length, sym, refl, ap, subst, ◌∙◌, arith}
use Rattle.std.proofs.lemmas.Bool.Decides.{nat_tests}
use Rattle.httparse.specs.Grammar.{print_end}
use Rattle.hc_framing.specs.TrailerReading.{end_of, end_with_feed, IsFieldLine}
use Rattle.hc_framing.proofs.TrailerLemmas.{no_line_breaks, line_taken, with_feed, fed_twice}
use Rattle.hc_framing.proofs.trailer.TrailerReader.end_line.Goals as goal

pub returns-then-not-is_line_and_feed : goal.returns-then-not-is_line_and_feed
returns-then-not-is_line_and_feed c = λ octets agrees.
    let r = c.args.self.now in
    let octets-are = fed_twice r c.as_slice.result.now (c.as_slice.ensures ∙ c.in_ok-extend_from_slice-2.ensures.ok
    ∙ ap (λ (o : List ℕ). o ++ 10 ∷ []) (c.in_ok-extend_from_slice.ensures.ok ∙ ap (λ (o : List ℕ). r.text ++ o) c.line_end.ensures)) in
    let none = c.is_line_and_feed.ensures.no c.if-not-is_line_and_feed.true (r.text ++ end_of r.returned) octets-are in
    no_line_breaks r octets agrees (grind (arith, nat_tests, c.is_empty.ensures, c.if-is_empty.false)) (λ line. none (subst IsFieldLine (sym (with_feed r)) line))

pub returns : goal.returns
returns c = λ octets agrees.
    let r = c.args.self.now in
    let text : c.extend_from_slice.new.self ≡ r.text ++ print_end (end_with_feed r.returned) =
    c.in_ok-extend_from_slice.ensures.ok ∙ ap (λ (o : List ℕ). r.text ++ o) c.line_end.ensures in
    let octets-are = fed_twice r c.as_slice.result.now (c.as_slice.ensures ∙ c.in_ok-extend_from_slice-2.ensures.ok ∙ ap (λ (o : List ℕ). o ++ 10 ∷ []) text) in
    let line = c.is_line_and_feed.ensures.yes c.if-not-is_line_and_feed.false (r.text ++ end_of r.returned) octets-are in
    line_taken r _ octets c.len-len.result agrees (grind (arith, nat_tests, c.is_empty.ensures, c.if-is_empty.false)) (c.len-len.ensures ∙ ap length text)
    (subst IsFieldLine (with_feed r) line) c.saturating_add-self.ensures c.saturating_add-self-2.ensures refl c.new.ensures
