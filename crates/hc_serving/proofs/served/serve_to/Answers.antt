use Rattle.hc_serving.proofs.served.serve_to.Goals as goal

pub returns-in-Some-clause-few : goal.returns-in-Some-clause-few
returns-in-Some-clause-few g c = rw c.in-Some.is c.serve_links.ensures.few

pub returns-in-Some-clause-transcript : goal.returns-in-Some-clause-transcript
returns-in-Some-clause-transcript g c = rw c.in-Some.is c.serve_links.ensures.transcript

pub returns-in-Some-clause-serves : goal.returns-in-Some-clause-serves
returns-in-Some-clause-serves g c = rw c.in-Some.is c.serve_links.ensures.serves

pub returns-in-None-clause-few : goal.returns-in-None-clause-few
returns-in-None-clause-few g c = rw c.in-None.is c.serve_links-in-None.ensures.few

pub returns-in-None-clause-transcript : goal.returns-in-None-clause-transcript
returns-in-None-clause-transcript g c = rw c.in-None.is c.serve_links-in-None.ensures.transcript

pub returns-in-None-clause-serves : goal.returns-in-None-clause-serves
returns-in-None-clause-serves g c = rw c.in-None.is c.serve_links-in-None.ensures.serves
