use Rattle.std.proofs.Common.{Bool, List, ℕ, rules, ◌+◌, ◌<◌, ◌≤◌, ◌++◌, length, take, subst, arith, Ok}
use Rattle.hc_incoming.specs.ResponseReading.{WasGiven, GivesHeard}
use Rattle.hc_incoming.proofs.ResponseLemmas.{taken_of_rest, front_of_rest, all_of_rest}
use Rattle.hc_incoming.proofs.ResponseLaws.{finds_response}
use Rattle.hc_incoming.proofs.responses.ResponseReader.hear.Goals as goal

-- an interim response takes some of the rest
some_taken : (c : goal.In-Interim) → (0 < c.in-Interim.taken) × (c.in-Interim.taken ≤ length c.split_at.result.1.now)
some_taken c = rw c.in-Interim.is at c.in_ok-taken.ensures.some

within : (c : goal.In-Interim) → c.loop-taken.used + c.in-Interim.taken ≤ length c.args.piece.now
within c = taken_of_rest c.args.piece.now c.split_at.result.1.now c.loop-taken.used c.in-Interim.taken c.split_at.ensures.back c.loop-taken.invariant.within (some_taken c)

pub overflow_add-used : goal.overflow_add-used
overflow_add-used c = let t = within c in search (rules, arith, t)

pub loop-taken-smaller : goal.loop-taken-smaller
loop-taken-smaller c = let s = some_taken c in let t = within c in omega (arith, s.0, t)

pub loop-taken-preserved : goal.loop-taken-preserved
loop-taken-preserved c = record {
  within = within c;
  can = rw c.in-Interim.is at c.in_ok-taken.ensures.can;
  agrees = λ to_head octets a.
      let before = octets ++ take c.loop-taken.used c.args.piece.now in
      let dropped = (rw c.in-Interim.is at (c.in_ok-taken.ensures.gives to_head before (c.loop-taken.invariant.agrees to_head octets a))) in
      subst (WasGiven to_head c.read.new.self) (front_of_rest octets c.args.piece.now c.split_at.result.1.now c.loop-taken.used c.in-Interim.taken c.split_at.ensures.back) dropped.agrees;
}

-- what was heard is that of all octets
heard : (c : goal.In-Last) → (to_head : Bool) (octets : List ℕ) → WasGiven to_head c.args.self.now octets → GivesHeard (Ok c.in-Last.heard) to_head c.read.new.self (octets ++ c.args.piece.now)
heard c = λ to_head octets a.
    let before = octets ++ take c.loop-taken.used c.args.piece.now in
    let rest = (rw c.in-Last.is at (c.in_ok-taken.ensures.gives to_head before (c.loop-taken.invariant.agrees to_head octets a))) in
    subst (GivesHeard (Ok c.in-Last.heard) to_head c.read.new.self) (all_of_rest octets c.args.piece.now c.split_at.result.1.now c.loop-taken.used c.split_at.ensures.back) rest

pub returns-in-Last-clause-gives : goal.returns-in-Last-clause-gives
returns-in-Last-clause-gives c = heard c

pub returns-in-Last-clause-found : goal.returns-in-Last-clause-found
returns-in-Last-clause-found c = λ to_head octets message a response.
    finds_response to_head (Ok c.in-Last.heard) c.read.new.self (octets ++ c.args.piece.now) message (heard c to_head octets a) response
