-- What a reader of messages keeps, from piece to piece.
use Rattle.std.proofs.Common.{◌≡◌, ◌≢◌, ℕ, ◌+◌, ◌-◌, ◌≤◌, ◌<◌, List, [], ◌∷◌, ◌++◌, length, take, drop, Result, Ok, Err, Option, Some, None, IfSome, rules, refl, sym, ap, subst, ◌∙◌, arith, append_assoc, append-nil, length-append, length-drop, length-take, inl, inr}
use Rattle.std.specs.Prelude.{IfErr}
use Rattle.std.proofs.lemmas.Bool.{cases_lt}
use Rattle.std.proofs.lemmas.List.{drop-append-le, take-append-drop, drop_all, take_all, take-append-le}
use Rattle.std.proofs.Math.Seq.{take-append-add, take-add, take-append_seam}
use Rattle.hc_head.specs.declared.head.Room.{Room}
use Rattle.hc_head.specs.declared.empty_line.Search.{Search}
use Rattle.hc_head.specs.declared.empty_line.Search.TheVariants.{Blank, Found}
use Rattle.hc_head.specs.declared.fault.HeadFault.{HeadFault}
use Rattle.hc_head.specs.declared.fault.HeadFault.TheVariants as heads
use Rattle.hc_head.specs.EmptyLine.{searched}
use Rattle.hc_head.specs.EmptyLineLaws.{searched-append, searched_found}
use Rattle.hc_head.specs.Reading.{IsWholeHead, HasNoHead, GivesHead, FindsHead, CanBecomeHead}
use Rattle.hc_framing.specs.declared.message.Message.{Message}
use Rattle.hc_framing.specs.declared.kind.Kind.{Kind}
use Rattle.hc_framing.specs.declared.fault.FrameFault.{FrameFault}
use Rattle.hc_framing.specs.declared.fault.FrameFault.TheVariants as faults
use Rattle.hc_framing.specs.declared.framing.Framing.{Framing}
use Rattle.hc_framing.specs.declared.framing.Framing.TheVariants.{UntilClose}
use Rattle.hc_framing.specs.declared.reader.MessageReader.{MessageReader}
use Rattle.hc_framing.specs.declared.reader.MessageStage.{MessageStage}
use Rattle.hc_framing.specs.declared.reader.MessageStage.TheVariants as at
use Rattle.hc_framing.specs.declared.progress.Progress.{Progress}
use Rattle.hc_framing.specs.declared.progress.Progress.TheVariants.{More, Whole}
use Rattle.hc_framing.specs.Forms.{Form, FormLaws}
use Rattle.hc_framing.specs.Messages.{BeginsMessage, BeginsBody, IsWholeBody}
use Rattle.hc_framing.specs.Bodies.{BreaksBody}
use Rattle.hc_framing.specs.Framing.{IsFramingFault}
use Rattle.hc_framing.specs.BodyReading.{AgreesBody, FaultsBody}
use Rattle.hc_framing.specs.Faults.{ShowsFault, BreaksBehind, StandsIn, StandsAtEnd, GoesOnBehind, IsWholeIn, GivesMessage, FindsMessage}
use Rattle.hc_framing.specs.Reader.{HasFailed, Holds, HasMessage, HasRoomLeft, KeepsHead, KeepsBody, AgreesAt, Agrees, CanFeed, HasNoMessage, BeginsIn, EndsAfter, FeedGives, FeedFinds, IsInTime, EndsHere, OnWhole, IsHeadOf, ShowsHead, ShowsHeadAfter}
use Rattle.hc_framing.specs.ReaderParts.{HasRead, FaultsHead, ReadsHead, FeedsBody, BeginsBodyGives}
use Rattle.hc_head.specs.declared.head.Step.TheVariants as steps
use Rattle.hc_framing.specs.Faults.{head_fault}
use Rattle.hc_head.proofs.ReadingLemmas.{finds_head}
use Rattle.hc_framing.proofs.BodyLemmas.{body_is_open, open_has_no_body, broken_has_no_body, body_unique, body-append, one_whole_body, ends_whole, broken_is_not_whole, open_is_not_whole, shorter_is_not_whole}

-- how a piece is searched for the end of the head
pub record Searches (before after : Search) (piece near : List ℕ) (most used : ℕ) : Type 0 where
  pub near_is : near ≡ take most piece
  pub within : used ≤ length near
  pub after_is : after ≡ searched before (take used near)
  pub all : after ≢ Found → used ≡ length near
  pub first : (k : ℕ) → k < used → searched before (take k near) ≢ Found

-- a front of a front
take_near : (most k : ℕ) (piece near : List ℕ) → near ≡ take most piece → k ≤ length near → take k near ≡ take k piece
take_near most k piece near is within =
    ap (take k) is ∙ sym (take-append-le k (take most piece) (drop most piece) (omega (arith, within, ap length is))) ∙ ap (take k) (take-append-drop most piece)

within_room : (octets : List ℕ) (room : Room) → HasRoomLeft octets room → length octets ≤ room.octets
within_room octets room (inl none) = omega (arith, ap length none)
within_room octets room (inr left) = omega (arith, left)

-- what is found in a front stays found
found_on : (front rest : List ℕ) → searched Blank front ≡ Found → searched Blank (front ++ rest) ≡ Found
found_on front rest found = searched-append Blank front rest ∙ ap (λ (s : Search). searched s rest) found ∙ searched_found rest

module _ {H : Type 0} (form : Form H) (laws : FormLaws form) where
  -- ---- heads

  -- without its empty line no head has ended
  no_head_before : (octets : List ℕ) → searched Blank octets ≢ Found → (head : H) (len : ℕ) → ¬ (form.begins octets head len)
  no_head_before octets none head len begins =
      none (ap (searched Blank) (sym (take-append-drop len octets)) ∙ found_on (take len octets) (drop len octets) (laws.ends_with_empty_line octets head len begins))

  -- octets that have their empty line, and are no head, can't become one
  never_found : (octets : List ℕ) (room : Room) → HasNoHead form.begins form.field_count octets room → length octets < room.octets → CanBecomeHead form.begins octets
      → searched Blank octets ≢ Found
  never_found octets room none short can found = go can.0 can.2
    where
      go : (more : List ℕ) → form.begins (octets ++ more) can.1 (length (octets ++ more)) → ⊥
      go [] begins =
          none can.1 (length (octets ++ [])) (omega (arith, short, ap length (append-nil octets)))
          (subst (λ (o : List ℕ). form.begins o can.1 (length (octets ++ []))) (append-nil octets) begins)
      go (b ∷ more) begins =
          laws.at_its_first (octets ++ b ∷ more) can.1 (length (octets ++ b ∷ more)) begins (length octets) (omega (arith, length-append octets (b ∷ more)))
          (ap (searched Blank) (take-append_seam octets (b ∷ more)) ∙ found)

  -- ---- a piece of the head

  pub seen_is : (r : MessageReader H) (room : Room) (octets piece near : List ℕ) (after : Search) (most used : ℕ) → KeepsHead form room r octets
      → Searches r.search after piece near most used → after ≡ searched Blank (octets ++ take used piece)
  seen_is r room octets piece near after most used k s =
      s.after_is ∙ (λ i. searched (k.search_is i) (take_near most used piece near s.near_is s.within i)) ∙ sym (searched-append Blank octets (take used piece))

  -- all of a piece was looked at where there is room left
  pub all_seen : (r : MessageReader H) (room : Room) (octets piece near : List ℕ) (after : Search) (most used : ℕ) → KeepsHead form room r octets
      → Searches r.search after piece near most used → most ≡ room.octets - length octets → after ≢ Found → length (octets ++ take used piece) < room.octets
      → used ≡ length piece
  all_seen r room octets piece near after most used k s most-is none short =
      omega (arith, s.all none, s.within, ap length s.near_is, length-take most piece, most-is, short, length-append octets (take used piece), length-take used piece, within_room octets room k.fits)

  pub keeps_on : (r q : MessageReader H) (room : Room) (octets piece near : List ℕ) (most used : ℕ) → KeepsHead form room r octets
      → Searches r.search q.search piece near most used → most ≡ room.octets - length octets → q.search ≢ Found
      → q.start ≡ r.start ++ take used piece → q.head ≡ r.head → length q.start < room.octets → KeepsHead form room q (octets ++ piece)
  keeps_on r q room octets piece near most used k s most-is none start-is head-is short =
      let start : q.start ≡ octets ++ take used piece = start-is ∙ ap (λ (o : List ℕ). o ++ take used piece) k.start_is in
      let all = all_seen r room octets piece near q.search most used k s most-is none (omega (arith, short, ap length start)) in
      let whole : take used piece ≡ piece = take_all used piece (omega (arith, all)) in
      let joined : octets ++ take used piece ≡ octets ++ piece = ap (λ (o : List ℕ). octets ++ o) whole in
      record {
        start_is = start ∙ joined;
        search_is = seen_is r room octets piece near q.search most used k s ∙ ap (searched Blank) joined;
        none_yet = none;
        fits = inr (omega (arith, short, ap length (start ∙ joined)));
        no_head = head-is ∙ k.no_head;
      }

  -- a head that is whole ends where the search did
  pub ends_there : (r : MessageReader H) (room : Room) (octets piece near : List ℕ) (after : Search) (most used : ℕ) → KeepsHead form room r octets
      → Searches r.search after piece near most used → (head : H) (len : ℕ) → form.begins (octets ++ take used piece) head len → len ≡ length octets + used
  ends_there r room octets piece near after most used k s head len begins =
      let seen = octets ++ take used piece in
      let in_near : used ≤ length piece = omega (arith, s.within, ap length s.near_is, length-take most piece) in
      let long : length seen ≡ length octets + used = omega (arith, length-append octets (take used piece), length-take used piece, in_near) in
      let inside = laws.within seen head len begins in
      let found = laws.ends_with_empty_line seen head len begins in
      elim (cases_lt (length octets) len) [
        | inl past ↦ elim (cases_lt len (length octets + used)) [
          | inl short ↦
              let n = len - length octets in
              let len-is : len ≡ length octets + n = omega (arith, past) in
              let less : n < used = omega (arith, short, len-is) in
              let front : take len seen ≡ octets ++ take n near =
              ap (λ (m : ℕ). take m seen) len-is ∙ take-append-add octets (take used piece) n
              ∙ ap (λ (o : List ℕ). octets ++ o) (sym (take-append-le n (take used piece) (drop used piece) (omega (arith, less, length-take used piece, in_near))) ∙ ap (take n) (take-append-drop used piece)
              ∙ sym (take_near most n piece near s.near_is (omega (arith, less, s.within)))) in
              absurd (s.first n less (ap (λ (t : Search). searched t (take n near)) k.search_is ∙ sym (searched-append Blank octets (take n near)) ∙ ap (searched Blank) (sym front) ∙ found))
          | inr all ↦ omega (arith, all, inside, long)
        ]
        | inr before ↦ absurd (k.none_yet (k.search_is ∙ ap (searched Blank) (sym (take-append-drop len octets)) ∙ found_on (take len octets) (drop len octets) (ap (searched Blank) (sym (take-append-le len octets (take used piece) before)) ∙ found)))
      ]

  -- ---- what is said of a front holds of more

  head_goes_on : (octets more : List ℕ) (room : Room) (head : H) (len : ℕ) → IsWholeHead form.begins form.field_count octets room head len → IsWholeHead form.begins form.field_count (octets ++ more) room head len
  head_goes_on octets more room head len w =
      record { begins = laws.goes_on octets more head len w.begins; octets_fit = w.octets_fit; fields_fit = w.fields_fit }

  -- the octets of the room, with more behind them
  in_room : (octets more others : List ℕ) (room : Room) → length octets ≤ room.octets
      → (rest : List ℕ) × (take room.octets (octets ++ more) ++ others ≡ take room.octets octets ++ rest)
  in_room octets more others room fits =
      let k = room.octets - length octets in
      let room-is : room.octets ≡ length octets + k = omega (arith, fits) in (
        take k more ++ others,
        ap (λ (n : ℕ). take n (octets ++ more) ++ others) room-is ∙ ap (λ (o : List ℕ). o ++ others) (take-append-add octets more k)
            ∙ append_assoc octets (take k more) others ∙ ap (λ (o : List ℕ). o ++ (take k more ++ others)) (sym (take_all room.octets octets fits)),
      )

  head_fault_on : (fault : HeadFault) (octets more : List ℕ) (room : Room) → length octets ≤ room.octets → GivesHead form.begins form.field_count (Err fault) octets room
      → GivesHead form.begins form.field_count (Err fault) (octets ++ more) room
  head_fault_on heads.Syntax octets more room fits never = λ others head len begins.
      let same = in_room octets more others room fits in
      never same.0 head len (subst (λ (o : List ℕ). form.begins o head len) same.1 begins)
  head_fault_on heads.TooManyFields octets more room fits many = λ others head len begins.
      let same = in_room octets more others room fits in
      many same.0 head len (subst (λ (o : List ℕ). form.begins o head len) same.1 begins)
  head_fault_on heads.TooLong octets more room fits long = (
    λ head len le begins. long.0 head len le
        (subst (λ (o : List ℕ). form.begins o head len) (take-append-le room.octets octets more long.1 ∙ take_all room.octets octets fits) (laws.front (octets ++ more) room.octets head len le begins)),
    omega (arith, long.1, length-append octets more),
  )
  head_fault_on heads.Host octets more room fits none = none
  head_fault_on heads.Target octets more room fits none = none
  head_fault_on heads.Memory octets more room fits any = any

  -- a fault that the fields of a head show is shown whatever follows
  pub read_shows : (kind : Kind) (r : MessageReader H) (octets more : List ℕ) (room : Room) (fault : FrameFault) → r.kind ≡ kind → r.room ≡ room → r.start ≡ octets
      → HasRead form r (Err fault) → ShowsFault form kind fault (octets ++ more) room
  read_shows kind r octets more room fault kind-is room-is start-is h = record {
    head = h.head;
    len = h.len;
    begins = head_goes_on octets more room h.head h.len (subst (λ (x : List ℕ × Room). IsWholeHead form.begins form.field_count x.0 x.1 h.head h.len) (λ i. (start-is i, room-is i)) h.begins);
    framed = ap (λ (k : Kind). form.framing_of k h.head) (sym kind-is) ∙ h.framed;
  }

  -- a fault that reading the head answers stands in the octets and what follows
  pub read_faults : (kind : Kind) (r : MessageReader H) (octets more : List ℕ) (room : Room) (fault : FrameFault) → r.kind ≡ kind → r.room ≡ room → r.start ≡ octets → length octets ≤ room.octets
      → FaultsHead form fault r → StandsIn form kind fault (octets ++ more) room
  read_faults kind r octets more room fault kind-is room-is start-is fits stands = go fault stands
    where
      shown : (f : FrameFault) → HasRead form r (Err f) → ShowsFault form kind f (octets ++ more) room
      shown f h = read_shows kind r octets more room f kind-is room-is start-is h

      go : (f : FrameFault) → FaultsHead form f r → StandsIn form kind f (octets ++ more) room
      go (faults.Head f) h =
          (h.0, head_fault_on f octets more room fits (subst (λ (x : List ℕ × Room). GivesHead form.begins form.field_count (Err f) x.0 x.1) (λ i. (start-is i, room-is i)) h.1))
      go faults.BothLengths h = shown faults.BothLengths h.0
      go faults.BadLength h = shown faults.BadLength h.0
      go faults.BadCoding h = shown faults.BadCoding h.0
      go faults.BadChunk h = absurd h.1
      go faults.BodyTooLong h = inl (shown faults.BodyTooLong h.0)
      go faults.Truncated h = absurd h.1
      go faults.Memory h = tt
      go faults.Failed h = absurd h.1

  -- a fault of the body that a whole head announces stands in the message
  pub body_faults : (kind : Kind) (octets : List ℕ) (room : Room) (head : H) (len : ℕ) (frame : Framing) (fault : FrameFault) → IsWholeHead form.begins form.field_count octets room head len
      → form.framing_of kind head ≡ Ok frame → FaultsBody fault frame (drop len octets) → StandsIn form kind fault octets room
  body_faults kind octets room head len frame fault begins framed = go fault
    where
      broken : (f : FrameFault) → BreaksBody f frame (drop len octets) → BreaksBehind form kind f octets room
      broken f b = record { head = head; len = len; begins = begins; frame = frame; framed = framed; breaks = b }

      go : (f : FrameFault) → FaultsBody f frame (drop len octets) → StandsIn form kind f octets room
      go (faults.Head f) b = absurd b
      go faults.BothLengths b = absurd b
      go faults.BadLength b = absurd b
      go faults.BadCoding b = absurd b
      go faults.BadChunk b = broken faults.BadChunk b
      go faults.BodyTooLong b = inr (broken faults.BodyTooLong b)
      go faults.Truncated b = absurd b
      go faults.Memory b = tt
      go faults.Failed b = absurd b

  -- ---- the body

  -- a body that has ended with so many octets of a piece, behind its head
  pub body_ends : (kind : Kind) (r s : MessageReader H) (octets piece : List ℕ) (room : Room) (used : ℕ) (head : H) (len : ℕ) (frame : Framing)
      → IsWholeHead form.begins form.field_count octets room head len → form.framing_of kind head ≡ Ok frame → s.stage ≡ at.End → s.head ≡ Some (form.without_framing head)
      → used ≤ length piece → BeginsBody frame (drop len octets ++ take used piece) s.body.whole (length (drop len octets) + used)
      → EndsAfter form kind room s octets piece used
  body_ends kind r s octets piece room used head len frame begins framed stage-is head-is within body =
      let t = take used piece in
      let inside = laws.within octets head len begins.begins in
      let on = head_goes_on octets t room head len begins in
      record {
        within = within;
        message = record { head = form.without_framing head; body = s.body.whole };
        begins = record {
          begins = record {
            head = head;
            head_len = len;
            begins = on.begins;
            frame = frame;
            framed = framed;
            body_len = length (drop len octets) + used;
            body = subst (λ (o : List ℕ). BeginsBody frame o s.body.whole (length (drop len octets) + used)) (sym (drop-append-le len octets t inside)) body;
            head_is = refl;
            len_is = omega (arith, length-drop len octets, inside);
          };
          octets_fit = on.octets_fit;
          fields_fit = on.fields_fit;
        };
        holds = record { stage_is = stage-is; head_is = head-is; body_is = refl };
      }

  pub body_keeps : (kind : Kind) (s : MessageReader H) (octets piece : List ℕ) (room : Room) (head : H) (len : ℕ) (frame : Framing)
      → IsWholeHead form.begins form.field_count octets room head len → form.framing_of kind head ≡ Ok frame → s.kind ≡ kind → s.room ≡ room → s.stage ≡ at.Body → s.head ≡ Some (form.without_framing head)
      → AgreesBody frame s.body (drop len octets ++ piece) → Agrees form kind room s (octets ++ piece)
  body_keeps kind s octets piece room head len frame begins framed kind-is room-is stage-is head-is body =
      let inside = laws.within octets head len begins.begins in (
        kind-is,
        room-is,
        subst (λ (t : MessageStage). AgreesAt form t kind room s (octets ++ piece)) (sym stage-is) (record {
          head = head;
          len = len;
          begins = head_goes_on octets piece room head len begins;
          frame = frame;
          framed = framed;
          head_is = head-is;
          body = subst (AgreesBody frame s.body) (sym (drop-append-le len octets piece inside)) body;
        }),
      )

  -- a piece of the body
  pub feeds_body : (kind : Kind) (r s : MessageReader H) (octets piece : List ℕ) (room : Room) (result : Result Progress FrameFault) → r.stage ≡ at.Body
      → Agrees form kind room r octets → FeedsBody result r s piece → FeedGives form result kind room s octets piece
  feeds_body kind r s octets piece room result stage agrees feeds = go result feeds
    where
      k : KeepsBody form kind room r octets
      k = subst (λ (t : MessageStage). AgreesAt form t kind room r octets) stage agrees.2

      go : (result : Result Progress FrameFault) → FeedsBody result r s piece → FeedGives form result kind room s octets piece
      go (Ok More) f =
          body_keeps kind s octets piece room k.head k.len k.frame k.begins k.framed (f.0.kind_is ∙ agrees.0) (f.0.room_is ∙ agrees.1) f.1 (f.0.head_is ∙ k.head_is) (f.2 k.frame (drop k.len octets) k.body)
      go (Ok (Whole used)) f =
          let ends = f.2 k.frame (drop k.len octets) k.body in
          body_ends kind r s octets piece room used k.head k.len k.frame k.begins k.framed f.1 (f.0.head_is ∙ k.head_is) ends.0 ends.1
      go (Err fault) f =
          body_faults kind (octets ++ piece) room k.head k.len k.frame fault (head_goes_on octets piece room k.head k.len k.begins) k.framed
          (subst (FaultsBody fault k.frame) (sym (drop-append-le k.len octets piece (laws.within octets k.head k.len k.begins.begins))) (f.1 k.frame (drop k.len octets) k.body))

  -- ---- a piece in which the head may end

  pub keeps_head : (kind : Kind) (r : MessageReader H) (octets : List ℕ) (room : Room) → r.stage ≡ at.Head → Agrees form kind room r octets
      → KeepsHead form room r octets
  keeps_head kind r octets room stage agrees = subst (λ (t : MessageStage). AgreesAt form t kind room r octets) stage agrees.2

  -- the reader with what was looked at of the piece
  abbrev pub with_front : MessageReader H → Search → List ℕ → MessageReader H
  with_front r search front = record r { start = r.start ++ front; search = search }

  -- what the reader that was given the piece rests on
  pub record Step (kind : Kind) (room : Room) (r q : MessageReader H) (octets piece near rest : List ℕ) (most used : ℕ) : Type 0 where
    pub stage_is : r.stage ≡ at.Head
    pub agrees : Agrees form kind room r octets
    pub searches : Searches r.search q.search piece near most used
    pub most_is : most ≡ r.room.octets - length r.start
    pub kind_is : q.kind ≡ r.kind
    pub room_is : q.room ≡ r.room
    pub still : q.stage ≡ r.stage
    pub shown_is : q.head ≡ r.head
    pub start_is : q.start ≡ r.start ++ take used piece
    pub rest_is : rest ≡ drop used piece

  keeps : (kind : Kind) (room : Room) (r q : MessageReader H) (octets piece near rest : List ℕ) (most used : ℕ) → Step kind room r q octets piece near rest most used
      → KeepsHead form room r octets
  keeps kind room r q octets piece near rest most used p = keeps_head kind r octets room p.stage_is p.agrees

  room_left : (kind : Kind) (room : Room) (r q : MessageReader H) (octets piece near rest : List ℕ) (most used : ℕ) → Step kind room r q octets piece near rest most used
      → most ≡ room.octets - length octets
  room_left kind room r q octets piece near rest most used p =
      p.most_is ∙ (λ i. (p.agrees.1 i).octets - length ((keeps kind room r q octets piece near rest most used p).start_is i))

  seen_start : (kind : Kind) (room : Room) (r q : MessageReader H) (octets piece near rest : List ℕ) (most used : ℕ) → Step kind room r q octets piece near rest most used
      → q.start ≡ octets ++ take used piece
  seen_start kind room r q octets piece near rest most used p =
      p.start_is ∙ ap (λ (o : List ℕ). o ++ take used piece) (keeps kind room r q octets piece near rest most used p).start_is

  pub head_goes_further : (kind : Kind) (room : Room) (r q : MessageReader H) (octets piece near rest : List ℕ) (most used : ℕ) → Step kind room r q octets piece near rest most used
      → q.search ≢ Found → length q.start < room.octets → Agrees form kind room q (octets ++ piece)
  head_goes_further kind room r q octets piece near rest most used p none short =
      let k = keeps kind room r q octets piece near rest most used p in (
        p.kind_is ∙ p.agrees.0,
        p.room_is ∙ p.agrees.1,
        subst (λ (t : MessageStage). AgreesAt form t kind room q (octets ++ piece)) (sym (p.still ∙ p.stage_is))
            (keeps_on r q room octets piece near most used k p.searches (room_left kind room r q octets piece near rest most used p) none p.start_is p.shown_is short),
      )

  -- the octets that were tried are no head yet
  pub head_awaited : (kind : Kind) (room : Room) (r q s : MessageReader H) (octets piece near rest : List ℕ) (most used : ℕ) → Step kind room r q octets piece near rest most used
      → ReadsHead form (Ok None) q s → Agrees form kind room s (octets ++ piece)
  head_awaited kind room r q s octets piece near rest most used p reads =
      let k = keeps kind room r q octets piece near rest most used p in
      let start = seen_start kind room r q octets piece near rest most used p in
      let in_room : q.room ≡ room = p.room_is ∙ p.agrees.1 in
      let short : length q.start < room.octets = subst (λ (x : Room). length q.start < x.octets) in_room reads.2.short in
      let searched-is : q.search ≡ searched Blank q.start = seen_is r room octets piece near q.search most used k p.searches ∙ ap (searched Blank) (sym start) in
      let none : q.search ≢ Found = λ found. never_found q.start q.room reads.2.none reads.2.short reads.2.can (sym searched-is ∙ found) in
      let on = head_goes_further kind room r q octets piece near rest most used p none short in
      let kept = keeps_head kind q (octets ++ piece) room (p.still ∙ p.stage_is) on in (
        reads.0.kind_is ∙ on.0,
        reads.0.room_is ∙ on.1,
        subst (λ (t : MessageStage). AgreesAt form t kind room s (octets ++ piece)) (sym (reads.0.stage_is ∙ p.still ∙ p.stage_is)) (record {
          start_is = reads.0.start_is ∙ kept.start_is;
          search_is = reads.0.search_is ∙ kept.search_is;
          none_yet = λ found. none (sym reads.0.search_is ∙ found);
          fits = kept.fits;
          no_head = reads.1 ∙ kept.no_head;
        }),
      )

  joined : (octets piece rest : List ℕ) (used : ℕ) → rest ≡ drop used piece → (octets ++ take used piece) ++ rest ≡ octets ++ piece
  joined octets piece rest used is =
      ap (λ (o : List ℕ). (octets ++ take used piece) ++ o) is ∙ append_assoc octets (take used piece) (drop used piece) ∙ ap (λ (o : List ℕ). octets ++ o) (take-append-drop used piece)

  pub head_faulty : (kind : Kind) (room : Room) (r q : MessageReader H) (octets piece near rest : List ℕ) (most used : ℕ) (fault : FrameFault) → Step kind room r q octets piece near rest most used
      → FaultsHead form fault q → StandsIn form kind fault (octets ++ piece) room
  head_faulty kind room r q octets piece near rest most used fault p stands =
      let k = keeps kind room r q octets piece near rest most used p in
      let start = seen_start kind room r q octets piece near rest most used p in
      let left = room_left kind room r q octets piece near rest most used p in
      let fits : length (octets ++ take used piece) ≤ room.octets = omega (arith, length-append octets (take used piece), length-take used piece, p.searches.within, ap length p.searches.near_is, length-take most piece, left, within_room octets room k.fits) in
      subst (λ (o : List ℕ). StandsIn form kind fault o room) (joined octets piece rest used p.rest_is)
      (read_faults kind q (octets ++ take used piece) rest room fault (p.kind_is ∙ p.agrees.0) (p.room_is ∙ p.agrees.1) start fits stands)

  -- a whole head, of which the last octets stand in the piece
  pub record WholeHead (kind : Kind) (room : Room) (s : MessageReader H) (octets piece : List ℕ) (used : ℕ) (frame : Framing) : Type 0 where
    pub head : H
    pub len : ℕ
    pub begins : IsWholeHead form.begins form.field_count (octets ++ take used piece) room head len
    pub framed : form.framing_of kind head ≡ Ok frame
    pub kind_is : s.kind ≡ kind
    pub room_is : s.room ≡ room
    pub head_is : s.head ≡ Some (form.without_framing head)
    pub none_behind : drop len (octets ++ take used piece) ≡ []

  pub head_whole : (kind : Kind) (room : Room) (r q s : MessageReader H) (octets piece near rest : List ℕ) (most used : ℕ) (frame : Framing) → Step kind room r q octets piece near rest most used
      → ReadsHead form (Ok (Some frame)) q s → WholeHead kind room s octets piece used frame
  head_whole kind room r q s octets piece near rest most used frame p reads =
      let k = keeps kind room r q octets piece near rest most used p in
      let start = seen_start kind room r q octets piece near rest most used p in
      let in_room : q.room ≡ room = p.room_is ∙ p.agrees.1 in
      let kind-is : q.kind ≡ kind = p.kind_is ∙ p.agrees.0 in
      let begins = subst (λ (x : List ℕ × Room). IsWholeHead form.begins form.field_count x.0 x.1 reads.1.0.head reads.1.0.len) (λ i. (start i, in_room i)) reads.1.0.begins in
      let len = ends_there r room octets piece near q.search most used k p.searches reads.1.0.head reads.1.0.len begins.begins in
      record {
        head = reads.1.0.head;
        len = reads.1.0.len;
        begins = begins;
        framed = ap (λ (x : Kind). form.framing_of x reads.1.0.head) (sym kind-is) ∙ reads.1.0.framed;
        kind_is = reads.0.kind_is ∙ kind-is;
        room_is = reads.0.room_is ∙ in_room;
        head_is = reads.1.1;
        none_behind = drop_all reads.1.0.len (octets ++ take used piece) (omega (arith, len, length-append octets (take used piece), length-take used piece));
      }

  pub body_begun : (kind : Kind) (room : Room) (r q s z : MessageReader H) (octets piece near rest : List ℕ) (most used : ℕ) (frame : Framing) → Step kind room r q octets piece near rest most used
      → ReadsHead form (Ok (Some frame)) q s → BeginsBodyGives frame (Ok More) s z rest → Agrees form kind room z (octets ++ piece)
  body_begun kind room r q s z octets piece near rest most used frame p reads begun =
      let h = head_whole kind room r q s octets piece near rest most used frame p reads in
      subst (Agrees form kind room z) (joined octets piece rest used p.rest_is)
      (body_keeps kind z (octets ++ take used piece) rest room h.head h.len frame h.begins h.framed (begun.0.kind_is ∙ h.kind_is) (begun.0.room_is ∙ h.room_is) begun.1 (begun.0.head_is ∙ h.head_is)
      (subst (λ (o : List ℕ). AgreesBody frame z.body (o ++ rest)) (sym h.none_behind) begun.2))

  pub body_broken : (kind : Kind) (room : Room) (r q s z : MessageReader H) (octets piece near rest : List ℕ) (most used : ℕ) (frame : Framing) (fault : FrameFault) → Step kind room r q octets piece near rest most used
      → ReadsHead form (Ok (Some frame)) q s → BeginsBodyGives frame (Err fault) s z rest → StandsIn form kind fault (octets ++ piece) room
  body_broken kind room r q s z octets piece near rest most used frame fault p reads begun =
      let h = head_whole kind room r q s octets piece near rest most used frame p reads in
      let seen = octets ++ take used piece in
      subst (λ (o : List ℕ). StandsIn form kind fault o room) (joined octets piece rest used p.rest_is)
      (body_faults kind (seen ++ rest) room h.head h.len frame fault (head_goes_on seen rest room h.head h.len h.begins) h.framed
      (subst (FaultsBody fault frame) (sym (drop-append-le h.len seen rest (laws.within seen h.head h.len h.begins.begins) ∙ ap (λ (o : List ℕ). o ++ rest) h.none_behind)) begun.1))

  pub body_whole : (kind : Kind) (room : Room) (r q s z : MessageReader H) (octets piece near rest : List ℕ) (most used taken : ℕ) (frame : Framing) → Step kind room r q octets piece near rest most used
      → ReadsHead form (Ok (Some frame)) q s → BeginsBodyGives frame (Ok (Whole taken)) s z rest
      → EndsAfter form kind room z octets piece (used + taken)
  body_whole kind room r q s z octets piece near rest most used taken frame p reads begun =
      let h = head_whole kind room r q s octets piece near rest most used frame p reads in
      let seen = octets ++ take used piece in
      let within : used ≤ length piece = omega (arith, p.searches.within, ap length p.searches.near_is, length-take most piece) in
      let none : length (drop h.len seen) ≡ 0 = ap length h.none_behind in
      let behind : BeginsBody frame (drop h.len seen ++ take taken rest) z.body.whole (length (drop h.len seen) + taken) =
      subst (λ (o : List ℕ). BeginsBody frame (o ++ take taken rest) z.body.whole (length o + taken)) (sym h.none_behind) (subst (λ (n : ℕ). BeginsBody frame (take taken rest) z.body.whole n) (omega arith) begun.2.1) in
      let e = body_ends kind s z seen rest room taken h.head h.len frame h.begins h.framed begun.1 (begun.0.head_is ∙ h.head_is) begun.2.0 behind in
      let octets-are : seen ++ take taken rest ≡ octets ++ take (used + taken) piece =
      append_assoc octets (take used piece) (take taken rest) ∙ ap (λ (o : List ℕ). octets ++ (take used piece ++ take taken o)) p.rest_is ∙ ap (λ (o : List ℕ). octets ++ o) (sym (take-add used taken piece)) in
      let long : length seen + taken ≡ length octets + (used + taken) = omega (arith, length-append octets (take used piece), length-take used piece, within) in
      record {
        within = omega (arith, e.within, ap length p.rest_is, length-drop used piece, within);
        message = e.message;
        begins = subst (λ (x : List ℕ × ℕ). BeginsIn form kind x.0 room e.message x.1) (λ i. (octets-are i, long i)) e.begins;
        holds = e.holds;
      }

  -- a fault that the fields show
  pub framing_fault_told : (r : MessageReader H) (fault : FrameFault) → IsFramingFault fault → HasRead form r (Err fault)
      → FaultsHead form fault r
  framing_fault_told r (faults.Head f) is read = absurd is
  framing_fault_told r faults.BothLengths is read = (read, is)
  framing_fault_told r faults.BadLength is read = (read, is)
  framing_fault_told r faults.BadCoding is read = (read, is)
  framing_fault_told r faults.BadChunk is read = absurd is
  framing_fault_told r faults.BodyTooLong is read = (read, is)
  framing_fault_told r faults.Truncated is read = absurd is
  framing_fault_told r faults.Memory is read = absurd is
  framing_fault_told r faults.Failed is read = absurd is

  -- ---- messages in the octets

  pub message_unique : (kind : Kind) (octets more : List ℕ) (message other : Message H) (m n : ℕ) → BeginsMessage form kind octets message m
      → BeginsMessage form kind (octets ++ more) other n → (message ≡ other) × (m ≡ n)
  message_unique kind octets more message other m n p q =
      let same = laws.one_head octets more p.head q.head p.head_len q.head_len p.begins q.begins in
      let frame : p.frame ≡ q.frame = one_ok p.frame q.frame (sym p.framed ∙ ap (form.framing_of kind) same.0 ∙ q.framed) in
      let behind : drop q.head_len (octets ++ more) ≡ drop p.head_len octets ++ more =
      ap (λ (k : ℕ). drop k (octets ++ more)) (sym same.1) ∙ drop-append-le p.head_len octets more (laws.within octets p.head p.head_len p.begins) in
      let body = body_unique p.frame (drop p.head_len octets) more message.body other.body p.body_len q.body_len p.body
      (subst (λ (x : Framing × List ℕ). BeginsBody x.0 x.1 other.body q.body_len) (λ i. (sym frame i, behind i)) q.body) in
      let head : message.head ≡ other.head = p.head_is ∙ ap form.without_framing same.0 ∙ sym q.head_is in
      (λ i. record { head = head i; body = body.0 i }, omega (arith, p.len_is, q.len_is, same.1, body.1))
    where
      one_ok : (a b : Framing) → ◌≡◌ {A = Result Framing FrameFault} (Ok a) (Ok b) → a ≡ b
      one_ok a b same = search (rules, same)

  pub message-append : (kind : Kind) (octets more : List ℕ) (message : Message H) (len : ℕ) → BeginsMessage form kind octets message len
      → BeginsMessage form kind (octets ++ more) message len
  message-append kind octets more message len p =
      let inside = laws.within octets p.head p.head_len p.begins in
      record {
        head = p.head;
        head_len = p.head_len;
        begins = laws.goes_on octets more p.head p.head_len p.begins;
        frame = p.frame;
        framed = p.framed;
        body_len = p.body_len;
        body = subst (λ (o : List ℕ). BeginsBody p.frame o message.body p.body_len) (sym (drop-append-le p.head_len octets more inside)) (body-append p.frame (drop p.head_len octets) more message.body p.body_len p.body);
        head_is = p.head_is;
        len_is = p.len_is;
      }

  -- two heads of the same octets
  same_head : (octets : List ℕ) (h k : H) (m n : ℕ) → form.begins octets h m → form.begins octets k n → (h ≡ k) × (m ≡ n)
  same_head octets h k m n p q = laws.one_head octets [] h k m n p (subst (λ (o : List ℕ). form.begins o k n) (sym (append-nil octets)) q)

  -- a message of the octets has the body that their head announces
  announced_body : (kind : Kind) (octets : List ℕ) (message : Message H) (len : ℕ) (head : H) (n : ℕ) (frame : Framing)
      → (p : BeginsMessage form kind octets message len) → form.begins octets head n → form.framing_of kind head ≡ Ok frame → BeginsBody frame (drop n octets) message.body p.body_len
  announced_body kind octets message len head n frame p begins framed =
      let same = same_head octets p.head head p.head_len n p.begins begins in
      let one : p.frame ≡ frame = one_ok (sym p.framed ∙ ap (form.framing_of kind) same.0 ∙ framed) in
      subst (λ (x : Framing × List ℕ). BeginsBody x.0 x.1 message.body p.body_len) (λ i. (one i, drop (same.1 i) octets)) p.body
    where
      one_ok : ◌≡◌ {A = Result Framing FrameFault} (Ok p.frame) (Ok frame) → p.frame ≡ frame
      one_ok same = search (rules, same)

  -- while the reader agrees, no front of the octets is a message
  pub agreeing_has_none : (kind : Kind) (room : Room) (r : MessageReader H) (octets : List ℕ) → Agrees form kind room r octets
      → HasNoMessage form kind octets
  agreeing_has_none kind room r octets agrees = λ message len p. go r.stage agrees.2 message len p
    where
      go : (stage : MessageStage) → AgreesAt form stage kind room r octets → (message : Message H) (len : ℕ) → BeginsMessage form kind octets message len → ⊥
      go at.Head k message len p = no_head_before octets (λ found. k.none_yet (k.search_is ∙ found)) p.head p.head_len p.begins
      go at.Body k message len p =
          open_has_no_body k.frame (drop k.len octets) message.body p.body_len (body_is_open k.frame r.body (drop k.len octets) k.body)
          (announced_body kind octets message len k.head k.len k.frame p k.begins.begins k.framed)
      go at.End k message len p = k
      go at.Failed k message len p = k

  pub more_has_none : (kind : Kind) (room : Room) (r : MessageReader H) (octets piece : List ℕ) (result : Result Progress FrameFault) → result ≡ Ok More
      → FeedGives form result kind room r octets piece → HasNoMessage form kind (octets ++ piece)
  more_has_none kind room r octets piece result more gives =
      agreeing_has_none kind room r (octets ++ piece) (subst (λ (x : Result Progress FrameFault). FeedGives form x kind room r octets piece) more gives)

  -- the reader agrees with what keeps the syntax line by line
  pub agreeing_in_time : (kind : Kind) (room : Room) (r : MessageReader H) (octets : List ℕ) → Agrees form kind room r octets
      → IsInTime form kind room octets
  agreeing_in_time kind room r octets agrees = go r.stage agrees.2
    where
      go : (stage : MessageStage) → AgreesAt form stage kind room r octets → IsInTime form kind room octets
      go at.Head k = inl (λ head len le begins. no_head_before octets (λ found. k.none_yet (k.search_is ∙ found)) head len begins, k.fits)
      go at.Body k = inr (record { head = k.head; len = k.len; begins = k.begins; frame = k.frame; framed = k.framed; is_open = body_is_open k.frame r.body (drop k.len octets) k.body })
      go at.End k = absurd k
      go at.Failed k = absurd k

  pub more_in_time : (kind : Kind) (room : Room) (r : MessageReader H) (octets piece : List ℕ) (result : Result Progress FrameFault) → result ≡ Ok More
      → FeedGives form result kind room r octets piece → IsInTime form kind room (octets ++ piece)
  more_in_time kind room r octets piece result more gives =
      agreeing_in_time kind room r (octets ++ piece) (subst (λ (x : Result Progress FrameFault). FeedGives form x kind room r octets piece) more gives)

  -- ---- a message that is there is found

  -- its head, within the room
  head_in : (kind : Kind) (octets : List ℕ) (room : Room) (message : Message H) (len : ℕ) → (m : BeginsIn form kind octets room message len)
      → IsWholeHead form.begins form.field_count octets room m.begins.head m.begins.head_len
  head_in kind octets room message len m = record { begins = m.begins.begins; octets_fit = m.octets_fit; fields_fit = m.fields_fit }

  -- a fault that the fields show is no framing
  not_both : (frame : Framing) (fault : FrameFault) → ◌≡◌ {A = Result Framing FrameFault} (Ok frame) (Err fault) → ⊥
  not_both frame fault same = search (rules, same)

  shows_none : (kind : Kind) (octets : List ℕ) (room : Room) (message : Message H) (len : ℕ) (fault : FrameFault) → BeginsIn form kind octets room message len
      → ShowsFault form kind fault octets room → ⊥
  shows_none kind octets room message len fault m s =
      let same = same_head octets m.begins.head s.head m.begins.head_len s.len m.begins.begins s.begins.begins in
      not_both m.begins.frame fault (sym m.begins.framed ∙ ap (form.framing_of kind) same.0 ∙ s.framed)

  breaks_none : (kind : Kind) (octets : List ℕ) (room : Room) (message : Message H) (len : ℕ) (fault : FrameFault) → BeginsIn form kind octets room message len
      → BreaksBehind form kind fault octets room → ⊥
  breaks_none kind octets room message len fault m s =
      broken_has_no_body fault s.frame (drop s.len octets) message.body m.begins.body_len s.breaks
      (announced_body kind octets message len s.head s.len s.frame m.begins s.begins.begins s.framed)

  pub fault_has_none : (kind : Kind) (octets : List ℕ) (room : Room) (message : Message H) (len : ℕ) (fault : FrameFault) → BeginsIn form kind octets room message len
      → StandsIn form kind fault octets room → fault ≡ faults.Memory
  fault_has_none kind octets room message len (faults.Head heads.Memory) m s = absurd (s.0 refl)
  fault_has_none kind octets room message len (faults.Head heads.Syntax) m s =
      absurd (finds_head form.begins form.field_count laws.one_head laws.goes_on octets room (Err heads.Syntax) m.begins.head m.begins.head_len s.1 (head_in kind octets room message len m))
  fault_has_none kind octets room message len (faults.Head heads.TooManyFields) m s =
      absurd (finds_head form.begins form.field_count laws.one_head laws.goes_on octets room (Err heads.TooManyFields) m.begins.head m.begins.head_len s.1 (head_in kind octets room message len m))
  fault_has_none kind octets room message len (faults.Head heads.TooLong) m s =
      absurd (finds_head form.begins form.field_count laws.one_head laws.goes_on octets room (Err heads.TooLong) m.begins.head m.begins.head_len s.1 (head_in kind octets room message len m))
  fault_has_none kind octets room message len (faults.Head heads.Host) m s = absurd s.1
  fault_has_none kind octets room message len (faults.Head heads.Target) m s = absurd s.1
  fault_has_none kind octets room message len faults.BothLengths m s = absurd (shows_none kind octets room message len faults.BothLengths m s)
  fault_has_none kind octets room message len faults.BadLength m s = absurd (shows_none kind octets room message len faults.BadLength m s)
  fault_has_none kind octets room message len faults.BadCoding m s = absurd (shows_none kind octets room message len faults.BadCoding m s)
  fault_has_none kind octets room message len faults.BadChunk m s = absurd (breaks_none kind octets room message len faults.BadChunk m s)
  fault_has_none kind octets room message len faults.BodyTooLong m (inl s) = absurd (shows_none kind octets room message len faults.BodyTooLong m s)
  fault_has_none kind octets room message len faults.BodyTooLong m (inr s) = absurd (breaks_none kind octets room message len faults.BodyTooLong m s)
  fault_has_none kind octets room message len faults.Truncated m s = absurd s
  fault_has_none kind octets room message len faults.Memory m s = refl
  fault_has_none kind octets room message len faults.Failed m s = absurd s

  pub feed_finds : (kind : Kind) (room : Room) (r : MessageReader H) (octets piece : List ℕ) (result : Result Progress FrameFault) (message : Message H) (len : ℕ)
      → FeedGives form result kind room r octets piece → BeginsIn form kind (octets ++ piece) room message len
      → FeedFinds result r octets message len
  feed_finds kind room r octets piece (Ok More) message len gives m = agreeing_has_none kind room r (octets ++ piece) gives message len m.begins
  feed_finds kind room r octets piece (Ok (Whole used)) message len gives m =
      let front = octets ++ take used piece in
      let whole : front ++ drop used piece ≡ octets ++ piece = append_assoc octets (take used piece) (drop used piece) ∙ ap (λ (o : List ℕ). octets ++ o) (take-append-drop used piece) in
      let same = message_unique kind front (drop used piece) gives.message message (length octets + used) len gives.begins.begins
      (subst (λ (o : List ℕ). BeginsMessage form kind o message len) (sym whole) m.begins) in
      (same.1, subst (Holds r) same.0 gives.holds)
  feed_finds kind room r octets piece (Err fault) message len gives m = fault_has_none kind (octets ++ piece) room message len fault m gives

  -- a message was found where the answer says so
  pub has_found : (r s : MessageReader H) (piece : List ℕ) (result : Result Progress FrameFault) → CanFeed form r
      → ((kind : Kind) (room : Room) (octets : List ℕ) → Agrees form kind room r octets → FeedGives form result kind room s octets piece)
      → (HasFailed r → result ≡ Err faults.Failed) → OnWhole result (HasMessage s)
  has_found r s piece (Ok More) can gives failed = tt
  has_found r s piece (Ok (Whole used)) (inl a) gives failed = let e = gives a.kind a.room a.octets a.agrees in (e.message, e.holds)
  has_found r s piece (Ok (Whole used)) (inr is) gives failed = absurd (never (failed is))
    where
      never : ◌≡◌ {A = Result Progress FrameFault} (Ok (Whole used)) (Err faults.Failed) → ⊥
      never same = search (rules, same)
  has_found r s piece (Err fault) can gives failed = tt

  -- ---- the end of the octets

  pub closes : (kind : Kind) (room : Room) (r s : MessageReader H) (octets : List ℕ) → r.stage ≡ at.Body → Agrees form kind room r octets
      → ((frame : Framing) (behind : List ℕ) → AgreesBody frame r.body behind → frame ≡ UntilClose)
      → s.stage ≡ at.End → s.head ≡ r.head → s.body.whole ≡ r.body.octets → EndsHere form kind room s octets
  closes kind room r s octets stage agrees until stage-is head-is body-is =
      let k = subst (λ (t : MessageStage). AgreesAt form t kind room r octets) stage agrees.2 in
      record {
        message = record { head = form.without_framing k.head; body = r.body.octets };
        is = record {
          is = record {
            head = k.head;
            head_len = k.len;
            begins = k.begins.begins;
            frame = k.frame;
            framed = k.framed;
            body = ends_whole k.frame r.body (drop k.len octets) k.body (until k.frame (drop k.len octets) k.body);
            head_is = refl;
          };
          octets_fit = k.begins.octets_fit;
          fields_fit = k.begins.fields_fit;
        };
        holds = record { stage_is = stage-is; head_is = head-is ∙ k.head_is; body_is = body-is };
      }

  pub cut_in_body : (kind : Kind) (room : Room) (r : MessageReader H) (octets : List ℕ) → r.stage ≡ at.Body → Agrees form kind room r octets
      → ((frame : Framing) (behind : List ℕ) → AgreesBody frame r.body behind → frame ≢ UntilClose)
      → StandsAtEnd form kind faults.Truncated octets room
  cut_in_body kind room r octets stage agrees until =
      let k = subst (λ (t : MessageStage). AgreesAt form t kind room r octets) stage agrees.2 in
      inr (
        record { head = k.head; len = k.len; begins = k.begins; frame = k.frame; framed = k.framed; is_open = body_is_open k.frame r.body (drop k.len octets) k.body },
        until k.frame (drop k.len octets) k.body,
      )

  -- the head is tried once more at the end
  pub cut_in_head : (kind : Kind) (room : Room) (r : MessageReader H) (octets : List ℕ) → r.stage ≡ at.Head → Agrees form kind room r octets
      → GivesHead form.begins form.field_count (Ok steps.More) r.start r.room → CanBecomeHead form.begins (take r.room.octets r.start)
      → StandsAtEnd form kind faults.Truncated octets room
  cut_in_head kind room r octets stage agrees gives can =
      let k = keeps_head kind r octets room stage agrees in
      let moved = subst (λ (x : List ℕ × Room). HasNoHead form.begins form.field_count x.0 x.1 × (length x.0 < x.1.octets) × CanBecomeHead form.begins (take x.1.octets x.0)) (λ i. (k.start_is i, agrees.1 i)) (gives.0, gives.1, can) in
      inl (record { none = moved.0; short = moved.1; can = subst (CanBecomeHead form.begins) (take_all room.octets octets (omega (arith, moved.1))) moved.2 })

  pub head_at_end : (kind : Kind) (room : Room) (r : MessageReader H) (octets : List ℕ) (fault : HeadFault) → r.stage ≡ at.Head → Agrees form kind room r octets
      → GivesHead form.begins form.field_count (Err fault) r.start r.room → StandsAtEnd form kind (head_fault fault) octets room
  head_at_end kind room r octets fault stage agrees gives =
      let k = keeps_head kind r octets room stage agrees in
      go fault (subst (λ (x : List ℕ × Room). GivesHead form.begins form.field_count (Err fault) x.0 x.1) (λ i. (k.start_is i, agrees.1 i)) gives)
    where
      go : (f : HeadFault) → GivesHead form.begins form.field_count (Err f) octets room → StandsAtEnd form kind (head_fault f) octets room
      go heads.Syntax g = (λ same. search (rules, same), g)
      go heads.TooManyFields g = (λ same. search (rules, same), g)
      go heads.TooLong g = (λ same. search (rules, same), g)
      go heads.Host g = absurd g
      go heads.Target g = absurd g
      go heads.Memory g = tt

  -- a whole head doesn't begin the octets
  pub none_at_end : (kind : Kind) (room : Room) (r : MessageReader H) (octets : List ℕ) (head : H) (len : ℕ) → r.stage ≡ at.Head → Agrees form kind room r octets
      → IsWholeHead form.begins form.field_count r.start r.room head len → ⊥
  none_at_end kind room r octets head len stage agrees whole =
      let k = keeps_head kind r octets room stage agrees in
      no_head_before octets (λ found. k.none_yet (k.search_is ∙ found)) head len (subst (λ (o : List ℕ). form.begins o head len) k.start_is whole.begins)

  -- ---- octets that are one message

  -- the head of a whole message, within the room
  whole_head : (kind : Kind) (octets : List ℕ) (room : Room) (message : Message H) → (w : IsWholeIn form kind octets room message)
      → IsWholeHead form.begins form.field_count octets room w.is.head w.is.head_len
  whole_head kind octets room message w = record { begins = w.is.begins; octets_fit = w.octets_fit; fields_fit = w.fields_fit }

  -- its body is that which any reading of its head announces
  body_by : (kind : Kind) (octets : List ℕ) (room : Room) (message : Message H) (head : H) (len : ℕ) (frame : Framing) → IsWholeIn form kind octets room message
      → form.begins octets head len → form.framing_of kind head ≡ Ok frame → IsWholeBody frame (drop len octets) message.body
  body_by kind octets room message head len frame w begins framed =
      let same = same_head octets w.is.head head w.is.head_len len w.is.begins begins in
      let one : w.is.frame ≡ frame = one_ok (sym w.is.framed ∙ ap (form.framing_of kind) same.0 ∙ framed) in
      subst (λ (x : Framing × List ℕ). IsWholeBody x.0 x.1 message.body) (λ i. (one i, drop (same.1 i) octets)) w.is.body
    where
      one_ok : ◌≡◌ {A = Result Framing FrameFault} (Ok w.is.frame) (Ok frame) → w.is.frame ≡ frame
      one_ok same = search (rules, same)

  pub one_whole : (kind : Kind) (octets : List ℕ) (room : Room) (message other : Message H) → IsWholeIn form kind octets room message
      → IsWholeIn form kind octets room other → message ≡ other
  one_whole kind octets room message other p q =
      let same = same_head octets p.is.head q.is.head p.is.head_len q.is.head_len p.is.begins q.is.begins in
      let head : message.head ≡ other.head = p.is.head_is ∙ ap form.without_framing same.0 ∙ sym q.is.head_is in
      let body : message.body ≡ other.body = one_whole_body q.is.frame (drop q.is.head_len octets) message.body other.body (body_by kind octets room message q.is.head q.is.head_len q.is.frame p q.is.begins q.is.framed) q.is.body in
      λ i. record { head = head i; body = body i }

  none_shown : (kind : Kind) (octets : List ℕ) (room : Room) (message : Message H) (fault : FrameFault) → IsWholeIn form kind octets room message
      → ShowsFault form kind fault octets room → ⊥
  none_shown kind octets room message fault w s =
      let same = same_head octets w.is.head s.head w.is.head_len s.len w.is.begins s.begins.begins in
      not_both w.is.frame fault (sym w.is.framed ∙ ap (form.framing_of kind) same.0 ∙ s.framed)

  none_broken : (kind : Kind) (octets : List ℕ) (room : Room) (message : Message H) (fault : FrameFault) → IsWholeIn form kind octets room message
      → BreaksBehind form kind fault octets room → ⊥
  none_broken kind octets room message fault w s =
      broken_is_not_whole fault s.frame (drop s.len octets) message.body s.breaks (body_by kind octets room message s.head s.len s.frame w s.begins.begins s.framed)

  none_behind : (kind : Kind) (octets : List ℕ) (room : Room) (message : Message H) → IsWholeIn form kind octets room message
      → GoesOnBehind form kind octets room → ⊥
  none_behind kind octets room message w g =
      let b = g.begins in
      shorter_is_not_whole b.frame (drop b.head_len octets) g.message.body message.body b.body_len b.body
      (omega (arith, g.more, b.len_is, length-drop b.head_len octets)) (body_by kind octets room message b.head b.head_len b.frame w b.begins b.framed)

  none_awaited : (kind : Kind) (octets : List ℕ) (room : Room) (message : Message H) → IsWholeIn form kind octets room message
      → StandsAtEnd form kind faults.Truncated octets room → ⊥
  none_awaited kind octets room message w (inl a) = a.none w.is.head w.is.head_len w.octets_fit w.is.begins
  none_awaited kind octets room message w (inr a) =
      open_is_not_whole a.0.frame (drop a.0.len octets) message.body a.1 a.0.is_open (body_by kind octets room message a.0.head a.0.len a.0.frame w a.0.begins.begins a.0.framed)

  pub finds_whole : (kind : Kind) (octets : List ℕ) (room : Room) (result : Result (Message H) FrameFault) (message : Message H) → GivesMessage form kind result octets room
      → IsWholeIn form kind octets room message → FindsMessage result message
  finds_whole kind octets room (Ok found) message gives w = one_whole kind octets room found message gives w
  finds_whole kind octets room (Err (faults.Head heads.Memory)) message gives w = absurd (gives.0 refl)
  finds_whole kind octets room (Err (faults.Head heads.Syntax)) message gives w =
      absurd (finds_head form.begins form.field_count laws.one_head laws.goes_on octets room (Err heads.Syntax) w.is.head w.is.head_len gives.1 (whole_head kind octets room message w))
  finds_whole kind octets room (Err (faults.Head heads.TooManyFields)) message gives w =
      absurd (finds_head form.begins form.field_count laws.one_head laws.goes_on octets room (Err heads.TooManyFields) w.is.head w.is.head_len gives.1 (whole_head kind octets room message w))
  finds_whole kind octets room (Err (faults.Head heads.TooLong)) message gives w =
      absurd (finds_head form.begins form.field_count laws.one_head laws.goes_on octets room (Err heads.TooLong) w.is.head w.is.head_len gives.1 (whole_head kind octets room message w))
  finds_whole kind octets room (Err (faults.Head heads.Host)) message gives w = absurd gives.1
  finds_whole kind octets room (Err (faults.Head heads.Target)) message gives w = absurd gives.1
  finds_whole kind octets room (Err faults.BothLengths) message gives w = absurd (none_shown kind octets room message faults.BothLengths w gives)
  finds_whole kind octets room (Err faults.BadLength) message (inl gives) w = absurd (none_shown kind octets room message faults.BadLength w gives)
  finds_whole kind octets room (Err faults.BadLength) message (inr gives) w = absurd (none_behind kind octets room message w gives)
  finds_whole kind octets room (Err faults.BadCoding) message gives w = absurd (none_shown kind octets room message faults.BadCoding w gives)
  finds_whole kind octets room (Err faults.BadChunk) message gives w = absurd (none_broken kind octets room message faults.BadChunk w gives)
  finds_whole kind octets room (Err faults.BodyTooLong) message (inl gives) w = absurd (none_shown kind octets room message faults.BodyTooLong w gives)
  finds_whole kind octets room (Err faults.BodyTooLong) message (inr gives) w = absurd (none_broken kind octets room message faults.BodyTooLong w gives)
  finds_whole kind octets room (Err faults.Truncated) message gives w = absurd (none_awaited kind octets room message w gives)
  finds_whole kind octets room (Err faults.Memory) message gives w = refl
  finds_whole kind octets room (Err faults.Failed) message gives w = absurd gives

  -- ---- the head that is shown

  -- one head at most is shown
  no_other : (kind : Kind) (room : Room) (octets : List ℕ) (head : H) (len : ℕ) (fault : FrameFault) → form.begins octets head len → form.framing_of kind head ≡ Err fault
      → (shown : H) → ¬ (IsHeadOf form kind room octets shown)
  no_other kind room octets head len fault begins framed shown is =
      let same = same_head octets is.head head is.len len is.begins.begins begins in
      not_both is.frame fault (sym is.framed ∙ ap (form.framing_of kind) same.0 ∙ framed)

  shown_some : (kind : Kind) (room : Room) (octets : List ℕ) (head : H) (len : ℕ) (frame : Framing) (shown : Option H) → IsWholeHead form.begins form.field_count octets room head len
      → form.framing_of kind head ≡ Ok frame → shown ≡ Some (form.without_framing head) → ShowsHead form kind room octets shown
  shown_some kind room octets head len frame shown begins framed is =
      subst (ShowsHead form kind room octets) (sym is) (record { head = head; len = len; begins = begins; frame = frame; framed = framed; shown_is = refl })

  shown_none : (kind : Kind) (room : Room) (octets : List ℕ) (shown : Option H) → shown ≡ None → ((other : H) → ¬ (IsHeadOf form kind room octets other))
      → ShowsHead form kind room octets shown
  shown_none kind room octets shown is none = subst (ShowsHead form kind room octets) (sym is) none

  pub agreeing_shows : (kind : Kind) (room : Room) (r : MessageReader H) (octets : List ℕ) → Agrees form kind room r octets
      → ShowsHead form kind room octets r.head
  agreeing_shows kind room r octets agrees = go r.stage agrees.2
    where
      go : (stage : MessageStage) → AgreesAt form stage kind room r octets → ShowsHead form kind room octets r.head
      go at.Head k = shown_none kind room octets r.head k.no_head (λ other is. no_head_before octets (λ found. k.none_yet (k.search_is ∙ found)) is.head is.len is.begins.begins)
      go at.Body k = shown_some kind room octets k.head k.len k.frame r.head k.begins k.framed k.head_is
      go at.End k = absurd k
      go at.Failed k = absurd k

  pub ok_shows : (kind : Kind) (room : Room) (r : MessageReader H) (octets piece : List ℕ) (progress : Progress) → FeedGives form (Ok progress) kind room r octets piece
      → ShowsHead form kind room (octets ++ piece) r.head
  ok_shows kind room r octets piece More gives = agreeing_shows kind room r (octets ++ piece) gives
  ok_shows kind room r octets piece (Whole used) gives =
      let m = gives.begins.begins in
      let whole : (octets ++ take used piece) ++ drop used piece ≡ octets ++ piece = append_assoc octets (take used piece) (drop used piece) ∙ ap (λ (o : List ℕ). octets ++ o) (take-append-drop used piece) in
      shown_some kind room (octets ++ piece) m.head m.head_len m.frame r.head
      (subst (λ (o : List ℕ). IsWholeHead form.begins form.field_count o room m.head m.head_len) whole
      (head_goes_on (octets ++ take used piece) (drop used piece) room m.head m.head_len (head_in kind (octets ++ take used piece) room gives.message (length octets + used) gives.begins)))
      m.framed (gives.holds.head_is ∙ ap (λ (h : H). Some h) m.head_is)

  -- what is shown is the head, also where memory ran out
  only_head : (kind : Kind) (room : Room) (octets : List ℕ) (shown : Option H) → ShowsHead form kind room octets shown
      → IfSome shown (IsHeadOf form kind room octets)
  only_head kind room octets None shows = tt
  only_head kind room octets (Some shown) shows = shows

  shows_after : (fault : FrameFault) (kind : Kind) (room : Room) (octets : List ℕ) (shown : Option H) → ShowsHead form kind room octets shown
      → ShowsHeadAfter form (Err fault) kind room octets shown
  shows_after faults.Memory kind room octets shown shows = only_head kind room octets shown shows
  shows_after (faults.Head f) kind room octets shown shows = shows
  shows_after faults.BothLengths kind room octets shown shows = shows
  shows_after faults.BadLength kind room octets shown shows = shows
  shows_after faults.BadCoding kind room octets shown shows = shows
  shows_after faults.BadChunk kind room octets shown shows = shows
  shows_after faults.BodyTooLong kind room octets shown shows = shows
  shows_after faults.Truncated kind room octets shown shows = shows
  shows_after faults.Failed kind room octets shown shows = shows

  -- while the head is read
  pub head_faulty_shows : (kind : Kind) (room : Room) (r q s : MessageReader H) (octets piece near rest : List ℕ) (most used : ℕ) (fault : FrameFault) → Step kind room r q octets piece near rest most used
      → ReadsHead form (Err fault) q s → ShowsHeadAfter form (Err fault) kind room (octets ++ piece) s.head
  head_faulty_shows kind room r q s octets piece near rest most used fault p reads =
      let k = keeps kind room r q octets piece near rest most used p in
      go fault reads.1 (head_faulty kind room r q octets piece near rest most used fault p reads.1) (reads.0 ∙ p.shown_is ∙ k.no_head)
    where
      hidden : s.head ≡ None → ((other : H) → ¬ (IsHeadOf form kind room (octets ++ piece) other)) → ShowsHead form kind room (octets ++ piece) s.head
      hidden is none = shown_none kind room (octets ++ piece) s.head is none

      by : (f : FrameFault) → s.head ≡ None → ShowsFault form kind f (octets ++ piece) room → ShowsHead form kind room (octets ++ piece) s.head
      by f is h = hidden is (no_other kind room (octets ++ piece) h.head h.len f h.begins.begins h.framed)

      told : HasRead form q (Err faults.BodyTooLong) → ShowsFault form kind faults.BodyTooLong (octets ++ piece) room
      told h =
          subst (λ (o : List ℕ). ShowsFault form kind faults.BodyTooLong o room) (joined octets piece rest used p.rest_is)
          (read_shows kind q (octets ++ take used piece) rest room faults.BodyTooLong (p.kind_is ∙ p.agrees.0) (p.room_is ∙ p.agrees.1) (seen_start kind room r q octets piece near rest most used p) h)

      lost : (f : HeadFault) → GivesHead form.begins form.field_count (Err f) (octets ++ piece) room → (other : H) → (h : IsHeadOf form kind room (octets ++ piece) other) → FindsHead {H = H} (Err f) h.head h.len
      lost f gives other h = finds_head form.begins form.field_count laws.one_head laws.goes_on (octets ++ piece) room (Err f) h.head h.len gives h.begins

      go : (f : FrameFault) → FaultsHead form f q → StandsIn form kind f (octets ++ piece) room → s.head ≡ None
          → ShowsHeadAfter form (Err f) kind room (octets ++ piece) s.head
      go (faults.Head heads.Memory) h stands none = absurd (stands.0 refl)
      go (faults.Head heads.Syntax) h stands none = hidden none (lost heads.Syntax stands.1)
      go (faults.Head heads.TooManyFields) h stands none = hidden none (lost heads.TooManyFields stands.1)
      go (faults.Head heads.TooLong) h stands none = hidden none (lost heads.TooLong stands.1)
      go (faults.Head heads.Host) h stands none = absurd stands.1
      go (faults.Head heads.Target) h stands none = absurd stands.1
      go faults.BothLengths h stands none = by faults.BothLengths none stands
      go faults.BadLength h stands none = by faults.BadLength none stands
      go faults.BadCoding h stands none = by faults.BadCoding none stands
      go faults.BadChunk h stands none = absurd h.1
      go faults.BodyTooLong h stands none = by faults.BodyTooLong none (told h.0)
      go faults.Truncated h stands none = absurd h.1
      go faults.Memory h stands none = subst (λ (shown : Option H). IfSome shown (IsHeadOf form kind room (octets ++ piece))) (sym none) tt
      go faults.Failed h stands none = absurd h.1

  -- while the body is read
  pub body_faulty_shows : (kind : Kind) (room : Room) (r s : MessageReader H) (octets piece : List ℕ) (fault : FrameFault) → r.stage ≡ at.Body
      → Agrees form kind room r octets → FeedsBody (Err fault) r s piece
      → ShowsHeadAfter form (Err fault) kind room (octets ++ piece) s.head
  body_faulty_shows kind room r s octets piece fault stage agrees feeds =
      let k = subst (λ (t : MessageStage). AgreesAt form t kind room r octets) stage agrees.2 in
      shows_after fault kind room (octets ++ piece) s.head (shown_some kind room (octets ++ piece) k.head k.len k.frame s.head (head_goes_on octets piece room k.head k.len k.begins) k.framed (feeds.0 ∙ k.head_is))

  pub body_shows : (r s : MessageReader H) (piece : List ℕ) (result : Result Progress FrameFault) → r.stage ≡ at.Body → FeedsBody result r s piece
      → IfErr result (λ fault. (kind : Kind) (room : Room) (octets : List ℕ) → Agrees form kind room r octets
      → ShowsHeadAfter form result kind room (octets ++ piece) s.head)
  body_shows r s piece (Ok progress) stage feeds = tt
  body_shows r s piece (Err fault) stage feeds = λ kind room octets agrees. body_faulty_shows kind room r s octets piece fault stage agrees feeds

  pub body_broken_shows : (kind : Kind) (room : Room) (r q s z : MessageReader H) (octets piece near rest : List ℕ) (most used : ℕ) (frame : Framing) (fault : FrameFault) → Step kind room r q octets piece near rest most used
      → ReadsHead form (Ok (Some frame)) q s → BeginsBodyGives frame (Err fault) s z rest
      → ShowsHeadAfter form (Err fault) kind room (octets ++ piece) z.head
  body_broken_shows kind room r q s z octets piece near rest most used frame fault p reads begun =
      let h = head_whole kind room r q s octets piece near rest most used frame p reads in
      let seen = octets ++ take used piece in
      shows_after fault kind room (octets ++ piece) z.head (subst (λ (o : List ℕ). ShowsHead form kind room o z.head) (joined octets piece rest used p.rest_is)
      (shown_some kind room (seen ++ rest) h.head h.len frame z.head (head_goes_on seen rest room h.head h.len h.begins) h.framed (begun.0 ∙ h.head_is)))
