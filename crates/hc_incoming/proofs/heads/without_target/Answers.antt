use Rattle.std.proofs.Common.{rules, inl}
use Rattle.hc_incoming.proofs.heads.without_target.Goals as goal

pub returns : goal.returns
returns c = λ head gives. inl (record { fault = c.args.fault; not_memory = search rules; gives = gives; trouble_is = c.head_trouble.ensures })
