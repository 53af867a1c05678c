use Rattle.std.proofs.Common.{◌≡◌, ◌∙◌, ℕ, Option, None, Some, ap, rules, sym}
use Rattle.std.specs.Option.{option_map_or}
use Rattle.hc_options.specs.Values.{octets_in, unit_of}
use Rattle.hc_options.proofs.ValueLemmas.{octets_with}
use Rattle.hc_options.proofs.values.octets_of.Goals as goal

pub returns-in-Some : goal.returns-in-Some
returns-in-Some c =
    let text = c.args.text.now in
    let digits = c.in_ok-letter.digits.now in
    let read = octets_with text digits c.in_ok-letter.letter.now c.in_ok-letter.ensures.cases in
    let known : unit_of c.in_ok-letter.letter.now ≡ Some c.in-Some.unit = search rules in
    c.octets_in.ensures ∙ sym (read ∙ ap (λ (o : Option ℕ). option_map_or (λ unit. octets_in unit digits) o (octets_in 1 text)) known)

pub returns-in-None : goal.returns-in-None
returns-in-None c =
    let text = c.args.text.now in
    let digits = c.in_ok-letter.digits.now in
    let read = octets_with text digits c.in_ok-letter.letter.now c.in_ok-letter.ensures.cases in
    let known : unit_of c.in_ok-letter.letter.now ≡ None = search rules in
    c.octets_in-in-None.ensures ∙ sym (read ∙ ap (λ (o : Option ℕ). option_map_or (λ unit. octets_in unit digits) o (octets_in 1 text)) known)
