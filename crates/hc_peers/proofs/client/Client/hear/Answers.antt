use Rattle.hc_peers.proofs.client.Client.hear.Goals as goal

pub returns-clause-reason : goal.returns-clause-reason
returns-clause-reason g c = c.read.ensures.reason c.args.hearing c.args.self.now.cut (c.if-hearing-2.false, c.if-hearing-3.false)
