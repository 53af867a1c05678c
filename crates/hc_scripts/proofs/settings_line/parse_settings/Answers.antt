use Rattle.std.proofs.Common.{sym, ◌∙◌}
use Rattle.hc_scripts.proofs.ScriptLineLemmas.{other_word, no_word_no_settings, no_bytes_no_settings}
use Rattle.hc_scripts.proofs.settings_line.parse_settings.Goals as goal

pub returns-then-ne-clause-none : goal.returns-then-ne-clause-none
returns-then-ne-clause-none c =
    no_word_no_settings c.args.text.now c.in_ok-word.word.now c.in_ok-word.rest.now c.in_ok-word.ensures.found
    (other_word c.in_ok-word.word.now (rw c.as_slice.ensures at (sym c.ne.ensures ∙ c.if-ne.true)))

pub returns-in_err-bytes-clause-none : goal.returns-in_err-bytes-clause-none
returns-in_err-bytes-clause-none c =
    rw c.from_residual-in_err-bytes.ensures
    (no_bytes_no_settings c.args.text.now c.in_ok-word.word.now c.in_ok-word.rest.now c.in_ok-keys.keys c.in_ok-keys.rest.now c.in_ok-word.ensures.found c.in_ok-keys.ensures.found c.in_err-bytes.ensures.none)
