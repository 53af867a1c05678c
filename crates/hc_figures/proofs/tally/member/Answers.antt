use Rattle.std.proofs.Common.{option_map, ap, ◌∙◌}
use Rattle.serde_json.specs.View.{view}
use Rattle.serde_json.proofs.Views.{view_of_ref, view-lookup}
use Rattle.hc_figures.proofs.tally.member.Goals as goal

pub returns : goal.returns
returns c = view_of_ref c.get.result ∙ ap (option_map view) c.get.ensures.value ∙ view-lookup c.args.name.now c.args.members.now.entries
