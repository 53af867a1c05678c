-- The numbers and the names of the faults of a transcript.
use Rattle.std.specs.Prelude.{ℕ, List, codes}
use Rattle.hc_transcript.specs.declared.fault.RecordFault.{RecordFault}
use Rattle.hc_transcript.specs.declared.fault.RecordFault.TheVariants.{Opening, Line, Torn, MomentBack, Number, NothingOpen, Message, TooLong, Memory, Cause}

abbrev pub fault_number : RecordFault → ℕ
fault_number Opening = 1
fault_number Line = 2
fault_number Torn = 3
fault_number MomentBack = 4
fault_number Number = 5
fault_number NothingOpen = 6
fault_number Message = 7
fault_number TooLong = 8
fault_number Memory = 9
fault_number Cause = 11

abbrev pub fault_name : RecordFault → List ℕ
fault_name Opening = codes "Opening"
fault_name Line = codes "Line"
fault_name Torn = codes "Torn"
fault_name MomentBack = codes "MomentBack"
fault_name Number = codes "Number"
fault_name NothingOpen = codes "NothingOpen"
fault_name Message = codes "Message"
fault_name TooLong = codes "TooLong"
fault_name Memory = codes "Memory"
fault_name Cause = codes "Cause"
