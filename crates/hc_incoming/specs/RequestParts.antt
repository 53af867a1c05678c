-- For the reader's own functions: what each part of a call does.
use Rattle.std.specs.Prelude.{◌≡◌, ℕ, List, ◌++◌, Option, Some, None, Result, Ok, Err}
use Rattle.std.specs.declared.alloc.AllocError.{AllocError}
use Rattle.hc_incoming.specs.declared.troubles.Trouble.{Trouble}
use Rattle.hc_head.specs.declared.head.RequestHead.{RequestHead}
use Rattle.hc_head.specs.declared.head.Target.{Target}
use Rattle.hc_head.specs.declared.head.TheConstants.Room.{RECEIVED}
use Rattle.hc_framing.specs.declared.fault.FrameFault.{FrameFault}
use Rattle.hc_framing.specs.declared.kind.Kind.TheVariants.{Request}
use Rattle.hc_framing.specs.Faults.{StandsIn}
use Rattle.hc_framing.specs.Messages.{request_form}
use Rattle.hc_framing.specs.Reader as framing
use Rattle.hc_incoming.specs.declared.requests.RequestReader.{RequestReader}
use Rattle.hc_incoming.specs.Counts.{count_of}
use Rattle.hc_incoming.specs.Refusals.{IsUnservedFor}
use Rattle.hc_incoming.specs.Requests.{IsServed}

-- a target is kept of a head that has passed its tests alone; a head that has come may still have to be tested
abbrev pub MayPass : Option RequestHead → Option Target → Type 0
MayPass None None = Unit {0}
MayPass None (Some target) = ⊥
MayPass (Some head) None = Unit {0}
MayPass (Some head) (Some target) = IsServed head target

-- the tests change nothing but the target that is kept
pub record SameOctets (r s : RequestReader) : Type 0 where
  pub reader_is : s.reader ≡ r.reader
  pub waits_are : s.waits ≡ r.waits
  pub heard_is : s.heard ≡ r.heard

-- the target that is kept once a head has passed its tests, if it has come
abbrev pub PassesWith : Option RequestHead → Option Target → Option Target → Type 0
PassesWith head (Some target) kept = kept ≡ Some target
PassesWith None None kept = kept ≡ None
PassesWith (Some head) None kept = (target : Target) × (kept ≡ Some target) × IsServed head target

-- the head fails its tests
pub record FailsWith (head : Option RequestHead) (target : Option Target) (trouble : Trouble) : Type 0 where
  pub failed : RequestHead
  pub has_come : head ≡ Some failed
  pub untested : target ≡ None
  pub unserved : IsUnservedFor failed trouble

-- what the tests of a head answer, once it has come: why it is refused
abbrev pub GivesTest : Result (Option Trouble) AllocError → RequestReader → RequestReader → Type 0
GivesTest (Ok None) r s = SameOctets r s × PassesWith r.reader.head r.target s.target
GivesTest (Ok (Some trouble)) r s = SameOctets r s × FailsWith r.reader.head r.target trouble
GivesTest (Err e) r s = Unit {0}

-- a fault stands in the octets, of which the head is shown that has come
pub record HasMet (r : RequestReader) (fault : FrameFault) (octets : List ℕ) : Type 0 where
  pub stands : StandsIn request_form Request fault octets RECEIVED
  pub shows : framing.ShowsHeadAfter request_form (Err fault) Request RECEIVED octets r.reader.head
  pub may_pass : MayPass r.reader.head r.target

-- the octets go on, and all of them were read
pub record HasGoneOn (r : RequestReader) (octets : List ℕ) : Type 0 where
  pub reads : framing.Agrees request_form Request RECEIVED r.reader octets
  pub may_pass : MayPass r.reader.head r.target
  pub counted : r.heard ≡ count_of octets

-- a message ends with so many of the octets that waited
pub record HasEnded (r : RequestReader) (used : ℕ) (octets : List ℕ) : Type 0 where
  pub read : List ℕ
  pub all : octets ≡ read ++ r.waits
  pub ends : framing.EndsAfter request_form Request RECEIVED r.reader read r.waits used
  pub may_pass : MayPass r.reader.head r.target
