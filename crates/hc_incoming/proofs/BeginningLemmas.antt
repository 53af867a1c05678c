-- Messages at the front of octets.
use Rattle.std.proofs.Common.{◌≡◌, ◌≢◌, ℕ, zero, suc, ◌+◌, ◌<◌, ◌≤◌, Bool, true, false, ◌&&◌, List, [], ◌∷◌, ◌++◌, length, drop, Result, Ok, Err, rules, sym, ap, subst, ◌∙◌, arith, append-nil, length-drop, inl, inr}
use Rattle.std.specs.Prelude.{if◌then◌else◌, codes}
use Rattle.std.specs.Bool.{⊤}
use Rattle.std.specs.List.{flat_map}
use Rattle.std.specs.Str.{str_eq_ignore_ascii_case}
use Rattle.std.proofs.lemmas.List.{drop-append-le}
use Rattle.hc_fields.specs.declared.fields.Field.{Field}
use Rattle.hc_fields.specs.Lists.{trimmed}
use Rattle.hc_fields.specs.Values.{values_of, has_name}
use Rattle.hc_head.specs.declared.head.RequestHead.{RequestHead}
use Rattle.hc_head.specs.declared.head.Room.{Room}
use Rattle.hc_head.specs.declared.head.Version.{Version}
use Rattle.hc_framing.specs.declared.fault.FrameFault.{FrameFault}
use Rattle.hc_framing.specs.declared.fault.FrameFault.TheVariants.{BothLengths, BadLength, BadCoding, Failed}
use Rattle.hc_framing.specs.declared.framing.Framing.{Framing}
use Rattle.hc_framing.specs.declared.framing.Framing.TheVariants.{Nothing, Sized, Chunked, UntilClose}
use Rattle.hc_framing.specs.declared.kind.Kind.{Kind}
use Rattle.hc_framing.specs.declared.message.Message.{Message}
use Rattle.hc_framing.specs.Forms.{Form, FormLaws}
use Rattle.hc_framing.specs.Framing.{◌>>=◌, refuse, members_of, common_length, sized_by, sized, coded_by, coded, is_http10, request_framing}
use Rattle.hc_framing.specs.Messages.{BeginsBody, BeginsMessage}
use Rattle.hc_framing.specs.Reader.{Agrees, BeginsIn, CanFeed, EndsAfter, HasFailed, IsInTime}
use Rattle.hc_framing.specs.declared.progress.Progress.{Progress}
use Rattle.hc_framing.specs.declared.progress.Progress.TheVariants.{Whole}
use Rattle.hc_framing.specs.declared.reader.MessageReader.{MessageReader}
use Rattle.hc_framing.proofs.BodyLemmas.{body-append, body_within, open_has_no_body}
use Rattle.hc_framing.proofs.ReaderLemmas.{agreeing_has_none, message_unique}

module _ {H : Type 0} (form : Form H) (laws : FormLaws form) where
  -- a message that begins octets begins them whatever follows
  pub begins_on : (kind : Kind) (room : Room) (octets more : List ℕ) (message : Message H) (len : ℕ) → BeginsIn form kind octets room message len
      → BeginsIn form kind (octets ++ more) room message len
  begins_on kind room octets more message len b =
      let p = b.begins in
      record {
        begins = record {
          head = p.head;
          head_len = p.head_len;
          begins = laws.goes_on octets more p.head p.head_len p.begins;
          frame = p.frame;
          framed = p.framed;
          body_len = p.body_len;
          body = subst (λ (o : List ℕ). BeginsBody p.frame o message.body p.body_len) (sym (drop-append-le p.head_len octets more (laws.within octets p.head p.head_len p.begins))) (body-append p.frame (drop p.head_len octets) more message.body p.body_len p.body);
          head_is = p.head_is;
          len_is = p.len_is;
        };
        octets_fit = b.octets_fit;
        fields_fit = b.fields_fit;
      }

  -- it lies within them
  pub begins_within : (kind : Kind) (room : Room) (octets : List ℕ) (message : Message H) (len : ℕ) → BeginsIn form kind octets room message len → len ≤ length octets
  begins_within kind room octets message len b =
      let p = b.begins in
      omega (arith, p.len_is, body_within p.frame (drop p.head_len octets) message.body p.body_len p.body, length-drop p.head_len octets, laws.within octets p.head p.head_len p.begins)

  -- one message begins octets, whatever follows
  pub one_begins : (kind : Kind) (room : Room) (octets more : List ℕ) (message other : Message H) (m n : ℕ) → BeginsIn form kind octets room message m → BeginsIn form kind (octets ++ more) room other n
      → (message ≡ other) × (m ≡ n)
  one_begins kind room octets more message other m n p q = message_unique form laws kind octets more message other m n p.begins q.begins

  -- and so of the same octets
  pub same_begins : (kind : Kind) (room : Room) (octets : List ℕ) (message other : Message H) (m n : ℕ) → BeginsIn form kind octets room message m → BeginsIn form kind octets room other n
      → (message ≡ other) × (m ≡ n)
  same_begins kind room octets message other m n p q =
      one_begins kind room octets [] message other m n p (subst (λ (o : List ℕ). BeginsIn form kind o room other n) (sym (append-nil octets)) q)

  -- no message begins octets that are awaited
  pub in_time_has_none : (kind : Kind) (room : Room) (octets : List ℕ) (message : Message H) (len : ℕ) → IsInTime form kind room octets → BeginsIn form kind octets room message len → ⊥
  in_time_has_none kind room octets message len (inl none) b = none.0 b.begins.head b.begins.head_len b.octets_fit b.begins.begins
  in_time_has_none kind room octets message len (inr a) b =
      let p = b.begins in
      let same = laws.one_head octets [] p.head a.head p.head_len a.len p.begins (subst (λ (o : List ℕ). form.begins o a.head a.len) (sym (append-nil octets)) a.begins.begins) in
      let one : p.frame ≡ a.frame = one_ok p.frame a.frame (sym p.framed ∙ ap (form.framing_of kind) same.0 ∙ a.framed) in
      open_has_no_body a.frame (drop a.len octets) message.body p.body_len a.is_open
      (subst (λ (x : Framing × List ℕ). BeginsBody x.0 x.1 message.body p.body_len) (λ i. (one i, drop (same.1 i) octets)) p.body)
    where
      one_ok : (f g : Framing) → ◌≡◌ {A = Result Framing FrameFault} (Ok f) (Ok g) → f ≡ g
      one_ok f g is = search (rules, is)

  -- a message that ends with a piece takes some of it
  pub takes_some : (kind : Kind) (room : Room) (r m : MessageReader H) (octets piece : List ℕ) (used : ℕ) → Agrees form kind room r octets → EndsAfter form kind room m octets piece used → 0 < used
  takes_some kind room r m octets piece zero agrees ends =
      absurd (agreeing_has_none form laws kind room r octets agrees ends.message (length octets + 0)
      (subst (λ (o : List ℕ). BeginsMessage form kind o ends.message (length octets + 0)) (append-nil octets) ends.begins.begins))
  takes_some kind room r m octets piece (suc used) agrees ends = omega arith

  -- so it does where the reader could be fed
  pub takes_of_piece : (r m : MessageReader H) (piece : List ℕ) (used : ℕ) → CanFeed form r
      → ((kind : Kind) (room : Room) (octets : List ℕ) → Agrees form kind room r octets → EndsAfter form kind room m octets piece used)
      → (HasFailed r → ◌≡◌ {A = Result Progress FrameFault} (Ok (Whole used)) (Err Failed)) → (0 < used) × (used ≤ length piece)
  takes_of_piece r m piece used (inl a) gives failed =
      let ends = gives a.kind a.room a.octets a.agrees in
      (takes_some a.kind a.room r m a.octets piece used a.agrees ends, ends.within)
  takes_of_piece r m piece used (inr is) gives failed = absurd (never (failed is))
    where
      never : ◌≡◌ {A = Result Progress FrameFault} (Ok (Whole used)) (Err Failed) → ⊥
      never whole = search (rules, whole)

-- ---- the body of a request ends by itself

-- the framing, if there is one, doesn't last until the close
abbrev EndsByItself : Result Framing FrameFault → Type 0
EndsByItself (Ok Nothing) = ⊤
EndsByItself (Ok (Sized size)) = ⊤
EndsByItself (Ok Chunked) = ⊤
EndsByItself (Ok UntilClose) = ⊥
EndsByItself (Err fault) = ⊤

refused : (test : Bool) (fault : FrameFault) (next : ⊤ → Result Framing FrameFault) → EndsByItself (next tt) → EndsByItself (refuse test fault >>= next)
refused true fault next rest = tt
refused false fault next rest = rest

bound : {A : Type 0} (result : Result A FrameFault) (next : A → Result Framing FrameFault) → ((a : A) → EndsByItself (next a)) → EndsByItself (result >>= next)
bound (Ok a) next rest = rest a
bound (Err fault) next rest = tt

chosen : (test : Bool) (a b : Result Framing FrameFault) → EndsByItself a → EndsByItself b → EndsByItself (if test then a else b)
chosen true a b first second = first
chosen false a b first second = second

coded_ends : (values : List (List ℕ)) → EndsByItself (coded_by values)
coded_ends [] = tt
coded_ends (value ∷ []) = chosen (str_eq_ignore_ascii_case (trimmed value) (codes "chunked")) (Ok Chunked) (Err BadCoding) tt tt
coded_ends (value ∷ other ∷ values) = tt

sized_ends : (values : List (List ℕ)) → EndsByItself (sized_by Nothing values)
sized_ends [] = tt
sized_ends (value ∷ values) = bound (common_length (flat_map members_of (value ∷ values))) (λ size. Ok (Sized size)) (λ size. tt)

request_ends : (version : Version) (fields : List Field) → EndsByItself (request_framing version fields)
request_ends version fields =
    refused (has_name (codes "transfer-encoding") fields && has_name (codes "content-length") fields) BothLengths _
    (refused (has_name (codes "transfer-encoding") fields && is_http10 version) BadLength _
    (chosen (has_name (codes "transfer-encoding") fields) (coded fields) (sized Nothing fields)
    (coded_ends (values_of (codes "transfer-encoding") fields)) (sized_ends (values_of (codes "content-length") fields))))

pub never_until_close : (head : RequestHead) (frame : Framing) → request_framing head.version head.fields ≡ Ok frame → frame ≢ UntilClose
never_until_close head frame framed until = subst EndsByItself (framed ∙ ap (λ (f : Framing). as_framing f) until) (request_ends head.version head.fields)
  where
    as_framing : Framing → Result Framing FrameFault
    as_framing f = Ok f
