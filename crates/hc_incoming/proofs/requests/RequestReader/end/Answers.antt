use Rattle.std.proofs.Common.{rules}
use Rattle.hc_incoming.proofs.RequestLemmas.{ends_with, none_came}
use Rattle.hc_incoming.proofs.requests.RequestReader.end.Goals as goal

pub returns-then-is_more : goal.returns-then-is_more
returns-then-is_more c = record { gives = λ octets a. let g = none_came c.next.new.self octets c.in_ok-arrival.arrival (search rules) (c.in_ok-arrival.ensures.gives octets a) in c.close.ensures.gives octets g.0 g.1 }

pub returns : goal.returns
returns c = record { gives = λ octets a. ends_with c.next.new.self octets c.in_ok-arrival.arrival c.refusal.result (search rules) c.refusal.ensures (c.in_ok-arrival.ensures.gives octets a) }
