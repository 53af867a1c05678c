use Rattle.std.proofs.Common.{inl, inr}
use Rattle.hc_head.proofs.HostLemmas.{FrontCases, host_found, host_too_long}
use Rattle.hc_head.proofs.hosts.host_end.Goals as goal
use Rattle.hc_head.proofs.hosts.host_end.Goals.{in-Some, in-None+in_ok-end-in-None}

pub returns-then-end-le-LONGEST_HOST : goal.returns-then-end-le-LONGEST_HOST
returns-then-end-le-LONGEST_HOST c =
    let cases : FrontCases c.args.text.now c.match-name_end.end =
    elim c.match-name_end.branch
    [ in-Some w ↦ rw w.end-is (inl w.in-Some.ensures) | in-None+in_ok-end-in-None w ↦ rw w.end-is (inr (w.in-None.ensures, w.in_ok-end-in-None.ensures)) ] in
    host_found c.args.text.now c.match-name_end.end cases c.if-end-le-LONGEST_HOST.true

pub returns-else-end-le-LONGEST_HOST : goal.returns-else-end-le-LONGEST_HOST
returns-else-end-le-LONGEST_HOST c =
    let cases : FrontCases c.args.text.now c.match-name_end.end =
    elim c.match-name_end.branch
    [ in-Some w ↦ rw w.end-is (inl w.in-Some.ensures) | in-None+in_ok-end-in-None w ↦ rw w.end-is (inr (w.in-None.ensures, w.in_ok-end-in-None.ensures)) ] in
    host_too_long c.args.text.now c.match-name_end.end cases c.if-end-le-LONGEST_HOST.false
