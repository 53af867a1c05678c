use Rattle.hc_drive.specs.declared.fault.DriveFault.TheVariants as drive
use Rattle.hc_drive.specs.Clients.{unserved}
use Rattle.hc_drive.proofs.ClientLemmas.{breaks_next, clock_still, nothing_passed, serves_next}
use Rattle.hc_drive.proofs.clients.serve_next.Goals as goal

pub returns-in-Ok-serve_connection-clause-serves : goal.returns-in-Ok-serve_connection-clause-serves
returns-in-Ok-serve_connection-clause-serves g c = λ text held.
    let told = nothing_passed g.A.Link.Link.has_given g.A.Link.Link.has_got g.A.Link.Link.was_read g.A.Link.Link.count g.O.Link.Link.has_given g.O.Link.Link.has_got (g.K.Clock.may_tell c.new-connection.result.clock.now)
    c.args.number c.in-Ok.client c.new-connection.result.opened c.new-connection.result.peers.client c.new-connection.result.peers.forwards.links
    c.in-Ok.ensures.fresh c.new-connection.ensures.tells c.new-connection.ensures.opened c.new-connection.ensures.kept in
    serves_next g.A.Link.Link.has_given g.A.Link.Link.has_got g.A.Link.Link.was_read g.A.Link.Link.count g.O.Link.Link.has_given g.O.Link.Link.has_got (g.K.Clock.may_tell c.serve_connection.new.connection.clock.now) (g.K.Clock.may_tell c.args.surroundings.now.clock.now)
    (clock_still g.K.Clock.may_tell c.new-connection.result.clock.now c.args.surroundings.now.clock.now c.new-connection.ensures.clock (g.K.Clock.may_tell c.serve_connection.new.connection.clock.now) c.serve_connection.ensures.moments)
    (g.A.Clients.came c.args.clients.now) (g.A.Clients.came c.next.new.self) (g.A.Clients.came c.done.new.self) (g.A.Clients.left c.args.clients.now) (g.A.Clients.left c.next.new.self) (g.A.Clients.left c.done.new.self)
    (g.R.Link.has_got c.serve_connection.new.recorder) c.args.core.now c.serve_connection.new.core c.args.number
    c.serve_connection.new.connection.peers.client c.serve_connection.new.connection.opened c.serve_connection.new.connection.peers.forwards.links text
    c.in-Ok.ensures.came c.in-Ok.ensures.left
    (c.in-Ok-serve_connection.ensures.serves (unserved c.args.number) text told held) c.in-Ok-serve_connection.ensures.idle
    c.in-Ok-serve_connection.ensures.opened
    c.into_client.result c.into_client.ensures c.done.ensures.came c.done.ensures.left

pub returns-in-Err-Client-clause-serves : goal.returns-in-Err-Client-clause-serves
returns-in-Err-Client-clause-serves g c = λ text held.
    let told = nothing_passed g.A.Link.Link.has_given g.A.Link.Link.has_got g.A.Link.Link.was_read g.A.Link.Link.count g.O.Link.Link.has_given g.O.Link.Link.has_got (g.K.Clock.may_tell c.new-connection.result.clock.now)
    c.args.number c.in-Ok.client c.new-connection.result.opened c.new-connection.result.peers.client c.new-connection.result.peers.forwards.links
    c.in-Ok.ensures.fresh c.new-connection.ensures.tells c.new-connection.ensures.opened c.new-connection.ensures.kept in
    serves_next g.A.Link.Link.has_given g.A.Link.Link.has_got g.A.Link.Link.was_read g.A.Link.Link.count g.O.Link.Link.has_given g.O.Link.Link.has_got (g.K.Clock.may_tell c.serve_connection.new.connection.clock.now) (g.K.Clock.may_tell c.args.surroundings.now.clock.now)
    (clock_still g.K.Clock.may_tell c.new-connection.result.clock.now c.args.surroundings.now.clock.now c.new-connection.ensures.clock (g.K.Clock.may_tell c.serve_connection.new.connection.clock.now) c.serve_connection.ensures.moments)
    (g.A.Clients.came c.args.clients.now) (g.A.Clients.came c.next.new.self) (g.A.Clients.came c.done-in-Err-Client.new.self) (g.A.Clients.left c.args.clients.now) (g.A.Clients.left c.next.new.self) (g.A.Clients.left c.done-in-Err-Client.new.self)
    (g.R.Link.has_got c.serve_connection.new.recorder) c.args.core.now c.serve_connection.new.core c.args.number
    c.serve_connection.new.connection.peers.client c.serve_connection.new.connection.opened c.serve_connection.new.connection.peers.forwards.links text
    c.in-Ok.ensures.came c.in-Ok.ensures.left
    (rw c.in-Err-Client.field-0-is at (c.in-Err-Client.ensures.serves (unserved c.args.number) text told held))
    (rw c.in-Err-Client.field-0-is at c.in-Err-Client.ensures.idle)
    (rw c.in-Err-Client.field-0-is at c.in-Err-Client.ensures.opened)
    c.into_client-in-Err-Client.result c.into_client-in-Err-Client.ensures c.done-in-Err-Client.ensures.came c.done-in-Err-Client.ensures.left

pub returns-in-Err-Recorder-clause-serves : goal.returns-in-Err-Recorder-clause-serves
returns-in-Err-Recorder-clause-serves g c = λ text held.
    let told = nothing_passed g.A.Link.Link.has_given g.A.Link.Link.has_got g.A.Link.Link.was_read g.A.Link.Link.count g.O.Link.Link.has_given g.O.Link.Link.has_got (g.K.Clock.may_tell c.new-connection.result.clock.now)
    c.args.number c.in-Ok.client c.new-connection.result.opened c.new-connection.result.peers.client c.new-connection.result.peers.forwards.links
    c.in-Ok.ensures.fresh c.new-connection.ensures.tells c.new-connection.ensures.opened c.new-connection.ensures.kept in
    breaks_next g.A.Link.Link.has_given g.A.Link.Link.has_got g.A.Link.Link.was_read g.A.Link.Link.count g.O.Link.Link.has_given g.O.Link.Link.has_got (g.K.Clock.may_tell c.serve_connection.new.connection.clock.now) (g.K.Clock.may_tell c.args.surroundings.now.clock.now)
    (clock_still g.K.Clock.may_tell c.new-connection.result.clock.now c.args.surroundings.now.clock.now c.new-connection.ensures.clock (g.K.Clock.may_tell c.serve_connection.new.connection.clock.now) c.serve_connection.ensures.moments)
    (g.A.Clients.came c.args.clients.now) (g.A.Clients.came c.next.new.self) (g.A.Clients.came c.next.new.self) (g.A.Clients.left c.args.clients.now) (g.A.Clients.left c.next.new.self) (g.A.Clients.left c.next.new.self)
    (g.R.Link.has_got c.serve_connection.new.recorder) c.args.core.now c.serve_connection.new.core c.args.number
    c.serve_connection.new.connection.peers.client c.serve_connection.new.connection.opened c.serve_connection.new.connection.peers.forwards.links text
    c.in-Ok.ensures.came c.in-Ok.ensures.left
    drive.Recorder _
    (rw c.in-Err-Recorder.field-0-is at (c.in-Err-Recorder.ensures.serves (unserved c.args.number) text told held))

pub returns-in-Err-Core-clause-serves : goal.returns-in-Err-Core-clause-serves
returns-in-Err-Core-clause-serves g c = λ text held.
    let told = nothing_passed g.A.Link.Link.has_given g.A.Link.Link.has_got g.A.Link.Link.was_read g.A.Link.Link.count g.O.Link.Link.has_given g.O.Link.Link.has_got (g.K.Clock.may_tell c.new-connection.result.clock.now)
    c.args.number c.in-Ok.client c.new-connection.result.opened c.new-connection.result.peers.client c.new-connection.result.peers.forwards.links
    c.in-Ok.ensures.fresh c.new-connection.ensures.tells c.new-connection.ensures.opened c.new-connection.ensures.kept in
    breaks_next g.A.Link.Link.has_given g.A.Link.Link.has_got g.A.Link.Link.was_read g.A.Link.Link.count g.O.Link.Link.has_given g.O.Link.Link.has_got (g.K.Clock.may_tell c.serve_connection.new.connection.clock.now) (g.K.Clock.may_tell c.args.surroundings.now.clock.now)
    (clock_still g.K.Clock.may_tell c.new-connection.result.clock.now c.args.surroundings.now.clock.now c.new-connection.ensures.clock (g.K.Clock.may_tell c.serve_connection.new.connection.clock.now) c.serve_connection.ensures.moments)
    (g.A.Clients.came c.args.clients.now) (g.A.Clients.came c.next.new.self) (g.A.Clients.came c.next.new.self) (g.A.Clients.left c.args.clients.now) (g.A.Clients.left c.next.new.self) (g.A.Clients.left c.next.new.self)
    (g.R.Link.has_got c.serve_connection.new.recorder) c.args.core.now c.serve_connection.new.core c.args.number
    c.serve_connection.new.connection.peers.client c.serve_connection.new.connection.opened c.serve_connection.new.connection.peers.forwards.links text
    c.in-Ok.ensures.came c.in-Ok.ensures.left
    (drive.Core c.in-Err-Core.step) _
    (rw c.in-Err-Core.field-0-is at (c.in-Err-Core.ensures.serves (unserved c.args.number) text told held))
