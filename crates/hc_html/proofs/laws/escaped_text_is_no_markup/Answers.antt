use Rattle.hc_html.proofs.MarkedLemmas.{plain_text}
use Rattle.hc_html.proofs.laws.escaped_text_is_no_markup.Goals as goal

pub returns : goal.returns
returns c = plain_text
