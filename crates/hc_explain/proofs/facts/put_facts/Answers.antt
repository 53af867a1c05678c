use Rattle.hc_explain.proofs.facts.put_facts.Goals as goal

pub returns : goal.returns
returns c = λ all has. (
  c.asked_of-asked.result.sections.now,
  c.asked_of-asked.result.words.now,
  c.asked_of-asked.ensures,
  c.put_finding.ensures _ (c.put_place.ensures all has),
)
