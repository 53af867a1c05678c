-- The records that are given out keep to the format of a transcript.
use Rattle.std.proofs.Common.{◌≡◌, ℕ, ◌+◌, ◌≤◌, ◌<◌, Bool, true, false, List, [], ◌∷◌, ◌++◌, length, Option, Some, None, refl, sym, ap, ◌∙◌, subst, arith, lit<, length-append}
use Rattle.std.specs.Prelude.{not, is_some, if◌then◌else◌, decimal}
use Rattle.std.proofs.lemmas.Bool.{and_from, le-leb, le-ltb, lt-ltb}
use Rattle.std.proofs.lemmas.Fmt.{length-decimal-le}
use Rattle.hc_fields.specs.declared.fields.Field.{Field}
use Rattle.hc_head.specs.declared.head.RequestHead.{RequestHead}
use Rattle.hc_head.specs.declared.head.ResponseHead.{ResponseHead}
use Rattle.hc_head.specs.declared.head.Target.{Target}
use Rattle.hc_head.specs.declared.head.TheConstants.Room.{RECORDED}
use Rattle.hc_head.specs.Methods.{is_head}
use Rattle.hc_head.specs.Texts.{request_head_text, response_head_text, with_length}
use Rattle.hc_head.specs.Weights.{fields_weight}
use Rattle.hc_head.specs.Writable.{longest_body}
use Rattle.hc_head.proofs.WeightLemmas.{length-request, length-response, weight_size, weight_longest}
use Rattle.hc_framing.specs.declared.kind.Kind.TheVariants.{Response}
use Rattle.hc_framing.specs.declared.message.Message.{Message}
use Rattle.hc_framing.specs.Texts.{request_text, response_text, request_length_told, response_length_told, told}
use Rattle.hc_framing.specs.Written.{IsReadableRequest, IsReadableResponse}
use Rattle.hc_transcript.specs.declared.fault.RecordFault.TheVariants as fault
use Rattle.hc_transcript.specs.declared.line.Line.{Line}
use Rattle.hc_transcript.specs.declared.record.Record.{Record}
use Rattle.hc_transcript.specs.Records.{CanTell, line_of, records_text, opening, told as cause_told}
use Rattle.hc_transcript.specs.Limits.{greatest_number, greatest_moment, longest_message}
use Rattle.hc_transcript.specs.Items.{Item, ClientRequest, OriginRequest, OriginResponse, OriginFailure, ClientReply, Exchange, Forward, forward_is_head, exchange_is_head}
use Rattle.hc_transcript.specs.History.{exchange_of, forward_of, last_moment, last_exchange, last_forward}
use Rattle.hc_transcript.specs.Checks.{first_fault, line_fault, has_right_length, has_right_number, has_right_cause, cause_is_open, answers_open}
use Rattle.hc_transcript.specs.Transcript.{AreReadAs}
use Rattle.hc_transcript.specs.Written.{IsWritableAsk, IsWritableAnswer, IsWritable, written_as}
use Rattle.hc_transcript.proofs.WrittenLemmas.{read_back}
use Rattle.hc_service.specs.declared.numbers.Numbers.{Numbers}
use Rattle.hc_service.specs.Numbers.{one_more, asked, sent, noted}
use Rattle.hc_service.specs.Sending.{recorded_format, request_record, forward_record, response_record, failure_record, reply_record}
use Rattle.hc_service.specs.Agreement.{History, AreCounted}
use Rattle.hc_service.specs.Laws.{with_record}

-- ---- how long what is recorded is

told_small : (test : Bool) (body : List ℕ) (fields : List Field) → length body ≤ longest_body → fields_weight (with_length fields (told test body)) ≤ fields_weight fields + 26
told_small false body fields short = omega arith
told_small true body fields short =
    let digits : length (decimal (length body)) ≤ 8 = length-decimal-le 8 (length body) (lit< tt) (omega arith) (omega arith) in
    omega (arith, weight_size fields (length body))

request_small : (request : Message RequestHead) → IsReadableRequest request RECORDED → length (request_text request) ≤ longest_message
request_small request r =
    let fits = r.head.read_back.octets_fit in
    let whole = length-request request.head (Some longest_body) in
    let part = length-request request.head (told (request_length_told request) request.body) in
    let small = told_small (request_length_told request) request.body request.head.fields r.short in
    omega (arith, r.short, length-append (request_head_text request.head (told (request_length_told request) request.body)) request.body, weight_longest request.head.fields)

response_small : (to_head : Bool) (response : Message ResponseHead) → IsReadableResponse to_head response RECORDED → 100 ≤ response.head.status → response.head.status < 1000
    → length (response_text (Response to_head) response) ≤ longest_message
response_small to_head response r low high =
    let fits = r.head.read_back.octets_fit in
    let whole = length-response response.head (Some longest_body) low high in
    let part = length-response response.head (told (response_length_told (Response to_head) response) response.body) low high in
    let small = told_small (response_length_told (Response to_head) response) response.body response.head.fields r.short in
    omega (arith, r.short, length-append (response_head_text response.head (told (response_length_told (Response to_head) response) response.body)) response.body, weight_longest response.head.fields)

-- ---- the checks of a line

passes : (a b c d e g : Bool) → a ≡ true → b ≡ true → c ≡ false → d ≡ true → e ≡ true → g ≡ true
    → (if not a then Some fault.Line
    else (if not b then Some fault.TooLong
    else (if c then Some fault.MomentBack
    else (if not d then Some fault.Number
    else (if not e then Some fault.Cause
    else (if not g then Some fault.NothingOpen
    else None)))))) ≡ None
passes a b c d e g ea eb ec ed ee eg = rw (ea, eb, ec, ed, ee, eg) refl

no_fault : (l : Line) (moment exchange forward : ℕ) (hc he hf : Bool) → l.moment ≤ greatest_moment → has_right_length l.kind l.size ≡ true → l.size ≤ longest_message → moment ≤ l.moment
    → has_right_number l.kind exchange forward l.number ≡ true → has_right_cause l.cause hc ≡ true → answers_open l.kind he hf ≡ true
    → first_fault l moment exchange forward hc he hf ≡ None
no_fault l moment exchange forward hc he hf in_time right small later number cause open_one =
    passes _ _ _ _ _ _ (and_from _ _ (le-leb l.moment greatest_moment in_time) right) (le-leb l.size longest_message small) (le-ltb l.moment moment later) number cause open_one

-- ---- one record more

read_more : (records : List Record) (items : List Item) (item : Item) → AreReadAs recorded_format records items → IsWritable items item
    → CanTell recorded_format (written_as items item) → line_fault items (line_of recorded_format (written_as items item)) ≡ None
    → AreReadAs recorded_format (written_as items item ∷ records) (item ∷ items)
read_more records items item are w can keeps =
    (read_back recorded_format (opening recorded_format ++ (records_text recorded_format records ++ [])) records items item
    (record { octets_are = refl; are_read = are }) w can keeps).are_read

-- a count that isn't at its end goes on by one
pub one_more_is : (n : ℕ) → n ≤ greatest_number → one_more n ≡ n + 1
one_more_is n le = omega arith

pub ask_counted : (n : Numbers) (h : History) (request : Message RequestHead) (target : Target) → AreCounted n h → IsWritableAsk request target → one_more n.records ≤ greatest_number
    → AreCounted (asked n) (with_record (request_record (one_more n.exchange) n.moment request) (ClientRequest (one_more n.exchange) n.moment request target) h)
ask_counted n h request target c w le =
    let records : one_more n.records ≡ n.records + 1 = one_more_is n.records c.in_range in
    let exchange : one_more n.exchange ≡ n.exchange + 1 = one_more_is n.exchange (omega (arith, c.exchanges, c.in_range)) in
    let item = ClientRequest (one_more n.exchange) n.moment request target in
    let counts = c.exchange in
    let rises : last_exchange h.items < one_more n.exchange = omega arith in
    let few : one_more n.exchange ≤ greatest_number = omega (arith, c.exchanges, le) in
    record {
      are_read = read_more h.records h.items item c.are_read w tt
          (no_fault (line_of recorded_format (written_as h.items item)) (last_moment h.items) (last_exchange h.items) (last_forward h.items) true
          (is_some (exchange_of (one_more n.exchange) h.items)) (is_some (forward_of (one_more n.exchange) h.items)) c.in_time refl
          (request_small request w.readable) c.moment (and_from _ _ (lt-ltb (last_exchange h.items) (one_more n.exchange) rises) (le-leb (one_more n.exchange) greatest_number few)) refl refl);
      records = omega (arith, c.records);
      exchange = refl;
      forward = c.forward;
      moment = omega arith;
      exchanges = omega (arith, c.exchanges);
      forwards = omega (arith, c.forwards);
      in_range = le;
      in_time = c.in_time;
    }

pub send_counted : (n : Numbers) (h : History) (cause : Option ℕ) (request : Message RequestHead) (target : Target) → AreCounted n h
    → has_right_cause (cause_told cause) (cause_is_open (cause_told cause) h.items) ≡ true → IsWritableAsk request target → one_more n.records ≤ greatest_number
    → AreCounted (sent n) (with_record (forward_record (one_more n.forward) n.moment cause request) (OriginRequest (one_more n.forward) n.moment request target cause) h)
send_counted n h cause request target c is_right w le =
    let records : one_more n.records ≡ n.records + 1 = one_more_is n.records c.in_range in
    let forward : one_more n.forward ≡ n.forward + 1 = one_more_is n.forward (omega (arith, c.forwards, c.in_range)) in
    let item = OriginRequest (one_more n.forward) n.moment request target cause in
    let counts = c.forward in
    let rises : last_forward h.items < one_more n.forward = omega arith in
    let few : one_more n.forward ≤ greatest_number = omega (arith, c.forwards, le) in
    record {
      are_read = read_more h.records h.items item c.are_read w tt
          (no_fault (line_of recorded_format (written_as h.items item)) (last_moment h.items) (last_exchange h.items) (last_forward h.items)
          (cause_is_open (cause_told cause) h.items) (is_some (exchange_of (one_more n.forward) h.items)) (is_some (forward_of (one_more n.forward) h.items)) c.in_time refl
          (request_small request w.readable) c.moment (and_from _ _ (lt-ltb (last_forward h.items) (one_more n.forward) rises) (le-leb (one_more n.forward) greatest_number few)) is_right refl);
      records = omega (arith, c.records);
      exchange = c.exchange;
      forward = refl;
      moment = omega arith;
      exchanges = omega (arith, c.exchanges);
      forwards = omega (arith, c.forwards);
      in_range = le;
      in_time = c.in_time;
    }

-- a response to an open forward, its failure, and a reply to an open exchange
module _ (n : Numbers) (h : History) (c : AreCounted n h) (le : one_more n.records ≤ greatest_number) where
  noted_with : (r : Record) (item : Item) → AreReadAs recorded_format (r ∷ h.records) (item ∷ h.items) → last_exchange (item ∷ h.items) ≡ last_exchange h.items
      → last_forward (item ∷ h.items) ≡ last_forward h.items → last_moment (item ∷ h.items) ≡ n.moment → AreCounted (noted n) (with_record r item h)
  noted_with r item are exchange forward moment =
      let records : one_more n.records ≡ n.records + 1 = one_more_is n.records c.in_range in
      record {
        are_read = are;
        records = omega (arith, c.records);
        exchange = c.exchange ∙ sym exchange;
        forward = c.forward ∙ sym forward;
        moment = omega arith;
        exchanges = omega (arith, c.exchanges);
        forwards = omega (arith, c.forwards);
        in_range = le;
        in_time = c.in_time;
      }

  pub response_counted : (f : ℕ) (forward : Forward) (response : Message ResponseHead) → 1 ≤ f → f ≤ greatest_number → forward_of f h.items ≡ Some forward
      → IsWritableAnswer (is_head forward.request.method) response → response.head.status < 1000
      → AreCounted (noted n) (with_record (response_record f n.moment (is_head forward.request.method) response) (OriginResponse f n.moment response) h)
  response_counted f forward response some few is_open w digits =
      let item = OriginResponse f n.moment response in
      let open_head : forward_is_head (forward_of f h.items) ≡ is_head forward.request.method = ap forward_is_head is_open in
      let low = w.is_final in
      noted_with (response_record f n.moment (is_head forward.request.method) response) item
      (subst (λ (b : Bool). AreReadAs recorded_format (response_record f n.moment b response ∷ h.records) (item ∷ h.items)) open_head
      (read_more h.records h.items item c.are_read (subst (λ (b : Bool). IsWritableAnswer b response) (sym open_head) w) tt
      (no_fault (line_of recorded_format (written_as h.items item)) (last_moment h.items) (last_exchange h.items) (last_forward h.items) true
      (is_some (exchange_of f h.items)) (is_some (forward_of f h.items)) c.in_time refl
      (response_small _ response (subst (λ (b : Bool). IsReadableResponse b response RECORDED) (sym open_head) w.readable) (omega arith) digits) c.moment
      (and_from _ _ (lt-ltb 0 f some) (le-leb f greatest_number few)) refl (ap is_some is_open))))
      refl refl refl

  pub failure_counted : (f : ℕ) (forward : Forward) → 1 ≤ f → f ≤ greatest_number → forward_of f h.items ≡ Some forward
      → AreCounted (noted n) (with_record (failure_record f n.moment) (OriginFailure f n.moment) h)
  failure_counted f forward some few is_open =
      let item = OriginFailure f n.moment in
      noted_with (failure_record f n.moment) item
      (read_more h.records h.items item c.are_read tt tt
      (no_fault (line_of recorded_format (written_as h.items item)) (last_moment h.items) (last_exchange h.items) (last_forward h.items) true
      (is_some (exchange_of f h.items)) (is_some (forward_of f h.items)) c.in_time refl
      (omega arith) c.moment (and_from _ _ (lt-ltb 0 f some) (le-leb f greatest_number few)) refl (ap is_some is_open)))
      refl refl refl

  pub reply_counted : (e : ℕ) (exchange : Exchange) (reply : Message ResponseHead) → 1 ≤ e → e ≤ greatest_number → exchange_of e h.items ≡ Some exchange
      → IsWritableAnswer (is_head exchange.request.method) reply → reply.head.status < 1000
      → AreCounted (noted n) (with_record (reply_record e n.moment (is_head exchange.request.method) reply) (ClientReply e n.moment reply) h)
  reply_counted e exchange reply some few is_open w digits =
      let item = ClientReply e n.moment reply in
      let open_head : exchange_is_head (exchange_of e h.items) ≡ is_head exchange.request.method = ap exchange_is_head is_open in
      let low = w.is_final in
      noted_with (reply_record e n.moment (is_head exchange.request.method) reply) item
      (subst (λ (b : Bool). AreReadAs recorded_format (reply_record e n.moment b reply ∷ h.records) (item ∷ h.items)) open_head
      (read_more h.records h.items item c.are_read (subst (λ (b : Bool). IsWritableAnswer b reply) (sym open_head) w) tt
      (no_fault (line_of recorded_format (written_as h.items item)) (last_moment h.items) (last_exchange h.items) (last_forward h.items) true
      (is_some (exchange_of e h.items)) (is_some (forward_of e h.items)) c.in_time refl
      (response_small _ reply (subst (λ (b : Bool). IsReadableResponse b reply RECORDED) (sym open_head) w.readable) (omega arith) digits) c.moment
      (and_from _ _ (lt-ltb 0 e some) (le-leb e greatest_number few)) refl (ap is_some is_open))))
      refl refl refl
