use Rattle.hc_head.specs.HostScan.{authority_of}
use Rattle.hc_head.proofs.TargetLemmas.{cut_from, no_absolute_without_host, no_absolute_without_authority, no_absolute_without_path, absolute_from_cut}
use Rattle.hc_head.proofs.targets.absolute_form.Goals as goal
use Rattle.hc_head.proofs.targets.absolute_form.Goals.{then-not-branch-via-then-not-branch, then-not-branch-via-else-not-branch+in_ok-is_path_or_nothing+then-not-branch-2}

pub returns-in_default-clause-none : goal.returns-in_default-clause-none
returns-in_default-clause-none c = λ authority rest form. c.in_default.ensures.none _ form.has_scheme

pub returns-in_default-host_and_port-clause-none : goal.returns-in_default-host_and_port-clause-none
returns-in_default-host_and_port-clause-none c =
    let cut = cut_from c.args.text.now c.in-Some.behind.now _ _ c.authority_len.result c.in-Some.ensures.found c.authority_len.ensures.value c.split_at.ensures.front c.split_at.ensures.back in
    no_absolute_without_host _ _ _ cut c.in_default-host_and_port.ensures.none

pub returns-then-not-branch-clause-none : goal.returns-then-not-branch-clause-none
returns-then-not-branch-clause-none c =
    let cut = cut_from c.args.text.now c.in-Some.behind.now _ _ c.authority_len.result c.in-Some.ensures.found c.authority_len.ensures.value c.split_at.ensures.front c.split_at.ensures.back in
    elim c.then-not-branch.branch [
      | then-not-branch-via-then-not-branch w ↦
          no_absolute_without_authority _ _ _ cut (λ is. let holds = c.in_ok-is_authority.ensures.answer.1 is in let fails = w.if-not-branch.true in cc)
      | then-not-branch-via-else-not-branch+in_ok-is_path_or_nothing+then-not-branch-2 w ↦
          no_absolute_without_path _ _ _ cut (λ path. let holds = w.in_ok-is_path_or_nothing.ensures.answer.1 path in let fails = w.if-not-branch-2.true in cc)
    ]

pub returns-clause-found : goal.returns-clause-found
returns-clause-found c =
    let cut = cut_from c.args.text.now c.in-Some.behind.now _ _ c.authority_len.result c.in-Some.ensures.found c.authority_len.ensures.value c.split_at.ensures.front c.split_at.ensures.back in
    absolute_from_cut _ _ _ (authority_of c.in-Some-host_and_port.authority) cut
    (c.in_ok-is_authority.ensures.answer.0 c.if-not-branch.false) c.in-Some-host_and_port.ensures.found
    (c.in_ok-is_path_or_nothing.ensures.answer.0 c.if-not-branch-2.false)
