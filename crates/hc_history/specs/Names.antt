-- The numbers and the names of the reasons against a reply.
use Rattle.std.specs.Prelude.{ℕ, List, codes}
use Rattle.hc_history.specs.declared.reasons.Reason.{Reason}
use Rattle.hc_history.specs.declared.reasons.Reason.TheVariants.{NoResponse, Vary, Invalidated, NoExplicitFreshness, NotAllowed, Body, Fields, Age, Ttl, NotForwarded, Unmarked, BothMarks, NotCollapsible}

-- the first nine are the filters, in their order
abbrev pub reason_number : Reason → ℕ
reason_number NoResponse = 1
reason_number Vary = 2
reason_number Invalidated = 3
reason_number NoExplicitFreshness = 4
reason_number NotAllowed = 5
reason_number Body = 6
reason_number Fields = 7
reason_number Age = 8
reason_number Ttl = 9
reason_number NotForwarded = 10
reason_number Unmarked = 11
reason_number BothMarks = 12
reason_number NotCollapsible = 13

abbrev pub reason_name : Reason → List ℕ
reason_name NoResponse = codes "NoResponse"
reason_name Vary = codes "Vary"
reason_name Invalidated = codes "Invalidated"
reason_name NoExplicitFreshness = codes "NoExplicitFreshness"
reason_name NotAllowed = codes "NotAllowed"
reason_name Body = codes "Body"
reason_name Fields = codes "Fields"
reason_name Age = codes "Age"
reason_name Ttl = codes "Ttl"
reason_name NotForwarded = codes "NotForwarded"
reason_name Unmarked = codes "Unmarked"
reason_name BothMarks = codes "BothMarks"
reason_name NotCollapsible = codes "NotCollapsible"
