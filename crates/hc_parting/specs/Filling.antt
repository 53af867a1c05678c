-- What goes from a recording into its parts.
use Rattle.std.specs.Prelude.{◌≡◌, ℕ, List, [], ◌++◌, Option, None}
use Rattle.hc_head.specs.declared.head.Target.{Target}
use Rattle.hc_transcript.specs.declared.format.Format.{Format}
use Rattle.hc_transcript.specs.declared.record.Record.{Record}
use Rattle.hc_transcript.specs.Items.{Item}
use Rattle.hc_transcript.specs.Transcript.{IsTranscript}
use Rattle.hc_parts.specs.Parts.{KeepsCauses}
use Rattle.hc_split.specs.declared.fault.SplitFault.{SplitFault}
use Rattle.hc_split.specs.declared.outlets.Outlet.{Outlet}
use Rattle.hc_split.specs.declared.splitter.Splitter.{Splitter}
use Rattle.hc_split.specs.Splitting.{AreGiven, IsSplitting, SplitsOn}

module _ {W : Type 0} (contents : W → Option (List ℕ)) where
  -- the octets are a transcript whose forwards go with their causes, and each part got the records that go into it, and their positions
  pub record IsParted (part : Target → ℕ) (format : Format) (octets : List ℕ) (before after : List (Outlet W)) : Type 0 where
    pub records : List Record
    pub history : List Item
    pub is : IsTranscript format octets records history
    pub keeps : KeepsCauses part history
    pub given : AreGiven contents part format before after [] [] records history

  -- by those octets the splitter came from the one to the other, and gave what it read to the outlets, unless it stopped
  abbrev pub Fills : Splitter → List (Outlet W) → Splitter → List (Outlet W) → List ℕ → Option SplitFault → Type 0
  Fills first before last after octets stop = (read : List ℕ) (records : List Record) (h : List Item) → IsSplitting first read records h
      → stop ≡ None → SplitsOn contents before after first last (read ++ octets) records h
