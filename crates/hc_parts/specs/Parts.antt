-- The parts of a recording. Each record goes into the part of its target.
use Rattle.std.specs.Prelude.{◌≡◌, ℕ, Bool, false, ◌&&◌, ◌==◌, List, [], ◌∷◌, ◌++◌, Option, Some, None, if◌then◌else◌}
use Rattle.std.specs.Option.{option_map}
use Rattle.hc_head.specs.declared.head.Target.{Target}
use Rattle.hc_transcript.specs.declared.format.Format.{Format}
use Rattle.hc_transcript.specs.declared.record.Record.{Record}
use Rattle.hc_transcript.specs.Records.{opening, records_text}
use Rattle.hc_transcript.specs.Items.{Item, ClientRequest, OriginRequest, OriginResponse, OriginFailure, ClientReply, Exchange, Forward}
use Rattle.hc_transcript.specs.History.{exchange_of, forward_of, next_position}

-- the target of the next item. A request has its own. A response, a failure or a reply has that of the open forward or exchange that it answers
abbrev pub target_about : List Item → Item → Option Target
target_about h (ClientRequest number moment request target) = Some target
target_about h (OriginRequest number moment request target cause) = Some target
target_about h (OriginResponse number moment response) = option_map (λ (f : Forward). f.target) (forward_of number h)
target_about h (OriginFailure number moment) = option_map (λ (f : Forward). f.target) (forward_of number h)
target_about h (ClientReply number moment reply) = option_map (λ (e : Exchange). e.target) (exchange_of number h)

-- parts have numbers; each target has a part
module _ (part : Target → ℕ) where
  abbrev pub is_of_part : ℕ → Option Target → Bool
  is_of_part k None = false
  is_of_part k (Some target) = part target == k

  -- whether the next item goes into a part
  abbrev pub goes_into : ℕ → List Item → Item → Bool
  goes_into k h item = is_of_part k (target_about h item)

  -- the items of a part, in their order
  abbrev pub items_in : ℕ → List Item → List Item
  items_in k [] = []
  items_in k (item ∷ h) = if goes_into k h item then item ∷ items_in k h else items_in k h

  -- a target goes where an exchange goes, if one is there
  abbrev pub GoesWith : Target → Option Exchange → Type 0
  GoesWith target None = Unit {0}
  GoesWith target (Some exchange) = part target ≡ part exchange.target

  -- the next item, if it is a forward that is told to be made for an exchange, goes where that exchange goes
  abbrev pub KeepsCause : List Item → Item → Type 0
  KeepsCause h (OriginRequest number moment request target (Some cause)) = GoesWith target (exchange_of cause h)
  KeepsCause h item = Unit {0}

  -- each forward of the history does
  abbrev pub KeepsCauses : List Item → Type 0
  KeepsCauses [] = Unit {0}
  KeepsCauses (item ∷ h) = KeepsCauses h × KeepsCause h item

  -- the records of a part, beside its items
  abbrev pub records_in : ℕ → List Record → List Item → List Record
  records_in k (r ∷ records) (item ∷ h) = if goes_into k h item then r ∷ records_in k records h else records_in k records h
  records_in k records h = []

  -- a part is a recording of its own: the opening, and behind it the octets of its records as they were
  abbrev pub part_octets : Format → ℕ → List Record → List Item → List ℕ
  part_octets format k records h = opening format ++ records_text format (records_in k records h)

  -- the position in the whole of the item that has that place, from 1 on, in a part; 0 where the part has no such place
  abbrev pub position_in : ℕ → ℕ → List Item → ℕ
  position_in k place [] = 0
  position_in k place (item ∷ h) = if goes_into k h item && next_position (items_in k h) == place then next_position h else position_in k place h
