use Rattle.serde_json.specs.View.{members_view}
use Rattle.hc_explain.proofs.FactLemmas.{json_is}
use Rattle.hc_explain.proofs.explaining.json_of.Goals as goal

pub returns : goal.returns
returns c =
    let base = members_view c.in_ok-members.members.entries in
    let put = c.put_facts.ensures base c.of-object.ensures in
    json_is c.args.known.now c.into_text.result base put.0 put.1 put.2 (c.into_text.ensures _ put.3)
