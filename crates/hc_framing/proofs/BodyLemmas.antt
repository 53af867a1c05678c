-- What readers of bodies keep, from part to part.
use Rattle.std.proofs.Common.{◌≡◌, ◌≢◌, ℕ, zero, suc, ◌+◌, ◌-◌, ◌≤◌, ◌<◌, Bool, true, false, List, [], ◌∷◌, ◌++◌, length, take, drop, min, Ok, Err, rules, refl, sym, ap, subst, ◌∙◌, arith, append_assoc, append-nil, length-append, length-drop, length-take, inl, inr, slice_index}
use Rattle.std.specs.List.{concat}
use Rattle.std.proofs.lemmas.List.{drop-append-le, take-append-drop, drop_all, take_all, take-append-le}
use Rattle.std.proofs.lemmas.List.Folds.{concat-append}
use Rattle.hc_framing.specs.declared.fault.FrameFault.{FrameFault}
use Rattle.hc_framing.specs.declared.fault.FrameFault.TheVariants.{Head, BothLengths, BadLength, BadCoding, BadChunk, BodyTooLong, Truncated, Memory, Failed}
use Rattle.hc_framing.specs.declared.chunk_fault.ChunkFault.{ChunkFault}
use Rattle.hc_framing.specs.declared.chunk_fault.ChunkFault.TheVariants as chunks
use Rattle.hc_framing.specs.declared.trailer.TrailerReader.{TrailerReader}
use Rattle.hc_framing.specs.ChunkFaults.{of_chunk}
use Rattle.hc_framing.specs.declared.framing.Framing.{Framing}
use Rattle.hc_framing.specs.declared.framing.Framing.TheVariants.{Nothing, Sized, Chunked, UntilClose}
use Rattle.hc_framing.specs.declared.framing_reader.FramingStage.{FramingStage}
use Rattle.hc_framing.specs.declared.framing_reader.FramingStage.TheVariants as at
use Rattle.hc_framing.specs.declared.framing_reader.FramingReader.{FramingReader}
use Rattle.hc_framing.specs.declared.framing_reader.Part.{Part}
use Rattle.hc_framing.specs.declared.body.BodyReader.{BodyReader}
use Rattle.std.proofs.Math.Seq.{take-add}
use Rattle.hc_framing.specs.ChunkLines.{BeginsChunkLine, NeverHasChunkLine}
use Rattle.hc_framing.specs.ChunkLineReading.{AgreesLine}
use Rattle.hc_framing.specs.Trailers.{IsTrailerThen, NeverHasTrailer, IsOpenTrailer}
use Rattle.hc_framing.specs.TrailerReading.{end_of, AgreesTrailer, GivesTrailer}
use Rattle.hc_head.specs.Writable.{longest_body}
use Rattle.hc_framing.specs.Chunks.{IsChunkThen, AreChunksThen, IsChunkedThen, NeverHasChunked, IsTooLong, OpenLine, OpenData, OpenTrailer, IsOpenChunked}
use Rattle.std.specs.Prelude.{◌⊎◌}
use Rattle.hc_framing.specs.Messages.{BeginsBody, BeginsChunked, IsWholeBody}
use Rattle.hc_framing.specs.Bodies.{IsOpenBody, BreaksBody}
use Rattle.hc_framing.specs.BodyReading.{AtLine, AtData, AtLineFeed, AtTrailer, AgreesAt, AgreesFraming, FaultsBody, GivesEnd, GivesPart, AgreesBody}
use Rattle.hc_framing.proofs.ChunkLineLemmas.{chunk_line-append, chunk_line_within, agrees_none, agrees_can}
use Rattle.hc_framing.proofs.ListLemmas.{tail_is, fronts}
use Rattle.hc_framing.proofs.ChunkLemmas.{chunks-append, chunks_more, BodyBehind, body_behind, begins_with_line, chunk_behind, trailer_behind, open_chunked_has_none, chunked_unique, chunked-append}

-- ---- octets behind a line

behind_line : (last more : List ℕ) (size len : ℕ) → BeginsChunkLine last size len → drop len (last ++ more) ≡ drop len last ++ more
behind_line last more size len line = drop-append-le len last more (chunk_line_within last size len line)

-- what a chunked body has behind chunks with which its octets begin
goes_on_behind : (chunks : List (List ℕ)) (octets last piece more body rest : List ℕ) → AreChunksThen chunks octets last
    → IsChunkedThen ((octets ++ piece) ++ more) body rest → BodyBehind chunks (last ++ (piece ++ more)) body rest
goes_on_behind chunks octets last piece more body rest are is =
    body_behind chunks octets (piece ++ more) last body rest are
    (subst (λ (o : List ℕ). IsChunkedThen o body rest) (append_assoc octets piece more) is)

-- ---- faults

pub line_breaks : (chunks : List (List ℕ)) (octets last piece : List ℕ) → AreChunksThen chunks octets last → NeverHasChunkLine (last ++ piece)
    → NeverHasChunked (octets ++ piece)
line_breaks chunks octets last piece are never = λ more body rest is.
    let l = begins_with_line chunks (last ++ (piece ++ more)) body rest (goes_on_behind chunks octets last piece more body rest are is) in
    never more l.0 l.1 (subst (λ (o : List ℕ). BeginsChunkLine o l.0 l.1) (sym (append_assoc last piece more)) l.2)

-- the octets behind the data of a chunk are CR LF
ends_of_chunk : (chunks : List (List ℕ)) (last behind-last body rest chunk : List ℕ) (len : ℕ) → BodyBehind chunks (last ++ behind-last) body rest
    → BeginsChunkLine last (length chunk) len → 0 < length chunk → (others : List ℕ) → drop len last ≡ chunk ++ others
    → (after : List ℕ) × (others ++ behind-last ≡ 13 ∷ 10 ∷ after)
ends_of_chunk chunks last behind-last body rest chunk len b line some others dropped =
    let c = chunk_behind chunks (last ++ behind-last) body rest (length chunk) len b (chunk_line-append last behind-last (length chunk) len line) some in
    let joined : chunk ++ (others ++ behind-last) ≡ c.chunk ++ (13 ∷ 10 ∷ c.behind) =
    sym (append_assoc chunk others behind-last) ∙ ap (λ (o : List ℕ). o ++ behind-last) (sym dropped) ∙ sym (behind_line last behind-last (length chunk) len line) ∙ c.is in
    (c.behind, (fronts chunk c.chunk (others ++ behind-last) (13 ∷ 10 ∷ c.behind) (sym c.size_is) joined).1)

pub carriage_return_breaks : (r : FramingReader) (octets so_far piece : List ℕ) → AtData r octets so_far → r.left ≡ 0 → 0 < length piece → slice_index piece 0 ≢ 13
    → NeverHasChunked (octets ++ piece)
carriage_return_breaks r octets so_far [] a none some wrong = absurd (omega (arith, some))
carriage_return_breaks r octets so_far (b ∷ bs) a none some wrong = λ more body rest is.
    let on = goes_on_behind a.chunks octets a.last (b ∷ bs) more body rest a.are is in
    let long : a.size ≡ length (drop a.len a.last) = omega (arith, a.left_is, none) in
    let line : BeginsChunkLine a.last (length (drop a.len a.last)) a.len = subst (λ (n : ℕ). BeginsChunkLine a.last n a.len) long a.line in
    let e = ends_of_chunk a.chunks a.last ((b ∷ bs) ++ more) body rest (drop a.len a.last) a.len on line (omega (arith, long, a.some)) [] (sym (append-nil (drop a.len a.last))) in
    wrong (tail_is b 13 (bs ++ more) (10 ∷ e.0) e.1).0

pub line_feed_breaks : (r : FramingReader) (octets so_far piece : List ℕ) → AtLineFeed r octets so_far → 0 < length piece → slice_index piece 0 ≢ 10
    → NeverHasChunked (octets ++ piece)
line_feed_breaks r octets so_far [] a some wrong = absurd (omega (arith, some))
line_feed_breaks r octets so_far (b ∷ bs) a some wrong = λ more body rest is.
    let on = goes_on_behind a.chunks octets a.last (b ∷ bs) more body rest a.are is in
    let e = ends_of_chunk a.chunks a.last ((b ∷ bs) ++ more) body rest a.chunk a.len on a.line a.some (13 ∷ []) a.behind in
    wrong (tail_is b 10 (bs ++ more) e.0 (tail_is 13 13 (b ∷ (bs ++ more)) (10 ∷ e.0) e.1).1).0

pub trailer_breaks : (chunks : List (List ℕ)) (octets last piece : List ℕ) (len : ℕ) → AreChunksThen chunks octets last → BeginsChunkLine last 0 len
    → NeverHasTrailer (drop len last ++ piece) → NeverHasChunked (octets ++ piece)
trailer_breaks chunks octets last piece len are line never = λ more body rest is.
    let on = goes_on_behind chunks octets last piece more body rest are is in
    let t = trailer_behind chunks (last ++ (piece ++ more)) body rest len on (chunk_line-append last (piece ++ more) 0 len line) in
    never more rest (subst (λ (o : List ℕ). IsTrailerThen o rest) (behind_line last (piece ++ more) 0 len line ∙ sym (append_assoc (drop len last) piece more)) t.0)

-- the line of a chunk with which the body is too long
pub says_too_long : (r : FramingReader) (octets body piece : List ℕ) (size used : ℕ) (a : AtLine r octets body) → used ≤ length piece
    → BeginsChunkLine (a.last ++ take used piece) size (length a.last + used) → longest_body - r.count < size → IsTooLong (octets ++ piece)
says_too_long r octets body piece size used a within line long = record {
  chunks = a.chunks;
  last = a.last ++ piece;
  are = chunks-append a.chunks octets piece a.last a.are;
  size = size;
  len = length a.last + used;
  line =
      subst (λ (o : List ℕ). BeginsChunkLine o size (length a.last + used)) (append_assoc a.last (take used piece) (drop used piece) ∙ ap (λ (o : List ℕ). a.last ++ o) (take-append-drop used piece))
      (chunk_line-append (a.last ++ take used piece) (drop used piece) size (length a.last + used) line);
  long = omega (arith, long, a.count_is, ap length a.body_is, a.short);
}

-- ---- parts that go on

pub line_goes_on : (r s : FramingReader) (octets body piece : List ℕ) (a : AtLine r octets body) → s.count ≡ r.count → AgreesLine s.line (a.last ++ piece)
    → AtLine s (octets ++ piece) body
line_goes_on r s octets body piece a same line = record {
  chunks = a.chunks;
  last = a.last ++ piece;
  are = chunks-append a.chunks octets piece a.last a.are;
  body_is = a.body_is;
  count_is = same ∙ a.count_is;
  short = a.short;
  line = line;
}

-- behind its line a chunk has no data yet
behind_whole_line : (last piece : List ℕ) (size used : ℕ) → used ≤ length piece → drop (length last + used) (last ++ take used piece) ≡ []
behind_whole_line last piece size used within =
    drop_all (length last + used) (last ++ take used piece) (omega (arith, length-append last (take used piece), length-take used piece))

pub data_begins : (r s : FramingReader) (octets body piece : List ℕ) (size used : ℕ) (a : AtLine r octets body) → used ≤ length piece
    → BeginsChunkLine (a.last ++ take used piece) size (length a.last + used) → size ≢ 0 → size ≤ longest_body - r.count
    → s.count ≡ r.count + size → s.left ≡ size → AtData s (octets ++ take used piece) body
data_begins r s octets body piece size used a within line some short count-is left-is =
    let none = behind_whole_line a.last piece size used within in
    record {
      chunks = a.chunks;
      last = a.last ++ take used piece;
      are = chunks-append a.chunks octets (take used piece) a.last a.are;
      size = size;
      len = length a.last + used;
      line = line;
      some = omega (arith, some);
      short = omega (arith, short, a.count_is, ap length a.body_is, a.short);
      body_is = a.body_is ∙ sym (append-nil (concat a.chunks)) ∙ ap (λ (o : List ℕ). concat a.chunks ++ o) (sym none);
      count_is = omega (arith, count-is, a.count_is, ap length a.body_is);
      left_is = omega (arith, ap length none, left-is);
    }

pub trailer_begins : (r s : FramingReader) (octets body piece : List ℕ) (used : ℕ) (a : AtLine r octets body) → used ≤ length piece
    → BeginsChunkLine (a.last ++ take used piece) 0 (length a.last + used)
    → AgreesTrailer s.trailer [] → AtTrailer s (octets ++ take used piece) body
trailer_begins r s octets body piece used a within line trailer = record {
  chunks = a.chunks;
  last = a.last ++ take used piece;
  are = chunks-append a.chunks octets (take used piece) a.last a.are;
  len = length a.last + used;
  line = line;
  body_is = a.body_is;
  short = a.short;
  trailer = subst (λ (o : List ℕ). AgreesTrailer s.trailer o) (sym (behind_whole_line a.last piece 0 used within)) trailer;
}

-- a line that has come takes some of the piece
pub line_takes_some : (r : FramingReader) (octets body piece : List ℕ) (size used : ℕ) (a : AtLine r octets body)
    → BeginsChunkLine (a.last ++ take used piece) size (length a.last + used) → 0 < used
line_takes_some r octets body piece size zero a line =
    absurd (agrees_none r.line a.last a.line size (length a.last + 0) (subst (λ (o : List ℕ). BeginsChunkLine o size (length a.last + 0)) (append-nil a.last) line))
line_takes_some r octets body piece size (suc used) a line = omega arith

data_goes_on : (r s : FramingReader) (octets body piece : List ℕ) → AtData r octets body → s.count ≡ r.count → s.left ≡ r.left - min (length piece) r.left
    → AtData s (octets ++ take (min (length piece) r.left) piece) (body ++ take (min (length piece) r.left) piece)
data_goes_on r s octets body piece a same left-is =
    let t = take (min (length piece) r.left) piece in
    let dropped : drop a.len (a.last ++ t) ≡ drop a.len a.last ++ t = behind_line a.last t a.size a.len a.line in
    record {
      chunks = a.chunks;
      last = a.last ++ t;
      are = chunks-append a.chunks octets t a.last a.are;
      size = a.size;
      len = a.len;
      line = chunk_line-append a.last t a.size a.len a.line;
      some = a.some;
      short = a.short;
      body_is = ap (λ (o : List ℕ). o ++ t) a.body_is ∙ append_assoc (concat a.chunks) (drop a.len a.last) t ∙ ap (λ (o : List ℕ). concat a.chunks ++ o) (sym dropped);
      count_is = same ∙ a.count_is;
      left_is = omega (arith, ap length dropped, length-append (drop a.len a.last) t, length-take (min (length piece) r.left) piece, a.left_is, left-is);
    }

pub line_feed_awaited : (r s : FramingReader) (octets body piece : List ℕ) → AtData r octets body → r.left ≡ 0 → 0 < length piece → slice_index piece 0 ≡ 13
    → s.count ≡ r.count → AtLineFeed s (octets ++ take 1 piece) body
line_feed_awaited r s octets body [] a none some is same = absurd (omega (arith, some))
line_feed_awaited r s octets body (b ∷ bs) a none some is same =
    let chunk = drop a.len a.last in
    let long : a.size ≡ length chunk = omega (arith, a.left_is, none) in
    let line : BeginsChunkLine a.last (length chunk) a.len = subst (λ (n : ℕ). BeginsChunkLine a.last n a.len) long a.line in
    record {
      chunks = a.chunks;
      last = a.last ++ b ∷ [];
      are = chunks-append a.chunks octets (b ∷ []) a.last a.are;
      chunk = chunk;
      len = a.len;
      line = chunk_line-append a.last (b ∷ []) (length chunk) a.len line;
      some = omega (arith, long, a.some);
      short = omega (arith, long, a.short);
      body_is = a.body_is;
      count_is = omega (arith, same, a.count_is, long, ap length a.body_is, length-append (concat a.chunks) chunk);
      behind = behind_line a.last (b ∷ []) (length chunk) a.len line ∙ ap (λ (n : ℕ). chunk ++ n ∷ []) is;
    }

pub next_line : (r s : FramingReader) (octets body piece : List ℕ) → AtLineFeed r octets body → 0 < length piece → slice_index piece 0 ≡ 10
    → s.count ≡ r.count → AgreesLine s.line [] → AtLine s (octets ++ take 1 piece) body
next_line r s octets body [] a some is same line = absurd (omega (arith, some))
next_line r s octets body (b ∷ bs) a some is same line =
    let dropped : drop a.len (a.last ++ b ∷ []) ≡ a.chunk ++ (13 ∷ 10 ∷ []) =
    behind_line a.last (b ∷ []) (length a.chunk) a.len a.line ∙ ap (λ (o : List ℕ). o ++ b ∷ []) a.behind
    ∙ append_assoc a.chunk (13 ∷ []) (b ∷ []) ∙ ap (λ (n : ℕ). a.chunk ++ (13 ∷ n ∷ [])) is in
    let chunk : IsChunkThen (a.last ++ b ∷ []) a.chunk [] = record {
      len = a.len;
      line = chunk_line-append a.last (b ∷ []) (length a.chunk) a.len a.line;
      some = a.some;
      behind = dropped;
    } in
    let joined : concat (a.chunks ++ a.chunk ∷ []) ≡ concat a.chunks ++ a.chunk =
    concat-append a.chunks (a.chunk ∷ []) ∙ ap (λ (o : List ℕ). concat a.chunks ++ o) (append-nil a.chunk) in
    record {
      chunks = a.chunks ++ a.chunk ∷ [];
      last = [];
      are = chunks_more a.chunks a.chunk (octets ++ b ∷ []) (a.last ++ b ∷ []) [] (chunks-append a.chunks octets (b ∷ []) a.last a.are) chunk;
      body_is = a.body_is ∙ sym joined;
      count_is = same ∙ a.count_is;
      short = omega (arith, ap length joined, length-append (concat a.chunks) a.chunk, a.short);
      line = line;
    }

pub trailer_goes_on : (r s : FramingReader) (octets body piece : List ℕ) (a : AtTrailer r octets body)
    → AgreesTrailer s.trailer (drop a.len a.last ++ piece) → AtTrailer s (octets ++ piece) body
trailer_goes_on r s octets body piece a trailer = record {
  chunks = a.chunks;
  last = a.last ++ piece;
  are = chunks-append a.chunks octets piece a.last a.are;
  len = a.len;
  line = chunk_line-append a.last piece 0 a.len a.line;
  body_is = a.body_is;
  short = a.short;
  trailer = subst (λ (o : List ℕ). AgreesTrailer s.trailer o) (sym (behind_line a.last piece 0 a.len a.line)) trailer;
}

pub trailer_ends : (r : FramingReader) (octets body piece : List ℕ) (used : ℕ) (a : AtTrailer r octets body) → used ≤ length piece
    → IsTrailerThen (drop a.len a.last ++ take used piece) [] → BeginsChunked (octets ++ take used piece) body (length octets + used)
trailer_ends r octets body piece used a within trailer =
    let t = take used piece in
    let long : length (octets ++ t) ≡ length octets + used = omega (arith, length-append octets t, length-take used piece) in
    let done : IsChunkedThen (octets ++ t) body [] = record {
      chunks = a.chunks;
      last = a.last ++ t;
      are = chunks-append a.chunks octets t a.last a.are;
      len = a.len;
      line = chunk_line-append a.last t 0 a.len a.line;
      trailer = subst (λ (o : List ℕ). IsTrailerThen o []) (sym (behind_line a.last t 0 a.len a.line)) trailer;
      body_is = a.body_is;
    } in
    record {
      within = omega (arith, long);
      is = subst (λ (o : List ℕ). IsChunkedThen (octets ++ t) body o) (sym (drop_all (length octets + used) (octets ++ t) (omega (arith, long)))) done;
      short = omega (arith, ap length a.body_is, a.short);
    }

-- ---- the stage

-- what the reader agrees with, by its stage
pub at_stage : (framing : Framing) (r : FramingReader) (octets body : List ℕ) (stage : FramingStage) → r.stage ≡ stage → AgreesFraming framing r octets body
    → AgreesAt stage framing r octets body
at_stage framing r octets body stage is agrees = subst (λ (s : FramingStage). AgreesAt s framing r octets body) is agrees

-- and the other way round
pub in_stage : (framing : Framing) (r : FramingReader) (octets body : List ℕ) (stage : FramingStage) → r.stage ≡ stage → AgreesAt stage framing r octets body
    → AgreesFraming framing r octets body
in_stage framing r octets body stage is agrees = subst (λ (s : FramingStage). AgreesAt s framing r octets body) (sym is) agrees

-- data of a chunk, as much of it as was taken
pub data_taken : (r s : FramingReader) (octets body piece : List ℕ) (taken : ℕ) → AtData r octets body → taken ≡ min (length piece) r.left → s.count ≡ r.count
    → s.left ≡ r.left - taken → AtData s (octets ++ take taken piece) (body ++ take taken piece)
data_taken r s octets body piece taken a taken-is same left-is =
    subst (λ (n : ℕ). AtData s (octets ++ take n piece) (body ++ take n piece)) (sym taken-is)
    (data_goes_on r s octets body piece a same (left-is ∙ ap (λ (n : ℕ). r.left - n) taken-is))

-- a piece that has octets is taken in part
pub takes_some : (taken long left : ℕ) → taken ≡ min long left → 0 < long → 0 < left → (0 < taken) × (taken ≤ long)
takes_some taken long left is some more = (omega (arith, is, some, more), omega (arith, is))

-- octets of the framing leave the body as it is
pub framing_taken : (part : Part) (framing : Framing) (r : FramingReader) (octets body piece : List ℕ) (used : ℕ)
    → part ≡ record { used = used; body = 0; ends = false } → 0 < used → used ≤ length piece
    → AgreesFraming framing r (octets ++ take used piece) body → GivesPart (Ok part) framing r octets body piece
framing_taken part framing r octets body piece used part-is some within agrees =
    subst (λ (p : Part). GivesPart (Ok p) framing r octets body piece) (sym part-is)
    (within, omega arith, (some, subst (λ (o : List ℕ). AgreesFraming framing r (octets ++ take used piece) o) (sym (append-nil body)) agrees))

-- all of a piece
pub whole_piece : (P : List ℕ → Type 0) (octets piece : List ℕ) → P (octets ++ piece) → P (octets ++ take (length piece) piece)
whole_piece P octets piece h = subst (λ (o : List ℕ). P (octets ++ o)) (sym (take_all (length piece) piece (omega arith))) h

-- a fault in the trailer section
pub trailer_faults : (r : FramingReader) (s : TrailerReader) (octets body piece : List ℕ) (framing : Framing) (fault : ChunkFault) → framing ≡ Chunked → (a : AtTrailer r octets body)
    → GivesTrailer (Err fault) s (drop a.len a.last) piece → FaultsBody (of_chunk fault) framing (octets ++ piece)
trailer_faults r s octets body piece framing chunks.Memory is a gives = tt
trailer_faults r s octets body piece framing chunks.Syntax is a gives = (is, trailer_breaks a.chunks octets a.last piece a.len a.are a.line gives)

-- ---- the parts of a piece

joined : (octets piece rest : List ℕ) (used taken : ℕ) → rest ≡ drop used piece → (octets ++ take used piece) ++ take taken rest ≡ octets ++ take (used + taken) piece
joined octets piece rest used taken rest-is =
    ap (λ (o : List ℕ). (octets ++ take used piece) ++ take taken o) rest-is ∙ append_assoc octets (take used piece) (take taken (drop used piece))
    ∙ ap (λ (o : List ℕ). octets ++ o) (sym (take-add used taken piece))

module _ (framing : Framing) (r : FramingReader) (octets body piece rest : List ℕ) (used : ℕ) (part : Part) (rest-is : rest ≡ drop used piece)
    (within : used ≤ length piece) (gives : GivesPart (Ok part) framing r (octets ++ take used piece) body rest) where
  -- a part lies in the piece
  pub part_within : (part.body ≤ length rest) × (used + part.used ≤ length piece)
  part_within = (omega (arith, gives.0, gives.1), omega (arith, gives.0, ap length rest-is, length-drop used piece, within))

  -- behind a part the body goes on
  pub part_on : part.ends ≡ false
      → (0 < part.used) × AgreesFraming framing r (octets ++ take (used + part.used) piece) (body ++ take part.body rest)
  part_on ends =
      let on = subst (λ (e : Bool). GivesEnd e part framing r (octets ++ take used piece) body rest) ends gives.2 in
      (on.0, subst (λ (o : List ℕ). AgreesFraming framing r o (body ++ take part.body rest)) (joined octets piece rest used part.used rest-is) on.1)

  -- or is whole
  pub part_end : part.ends ≡ true
      → BeginsBody framing (octets ++ take (used + part.used) piece) (body ++ take part.body rest) (length octets + (used + part.used))
  part_end ends =
      let end = subst (λ (e : Bool). GivesEnd e part framing r (octets ++ take used piece) body rest) ends gives.2 in
      let long : length (octets ++ take used piece) + part.used ≡ length octets + (used + part.used) =
      omega (arith, length-append octets (take used piece), length-take used piece, within) in
      subst (λ (p : List ℕ × ℕ). BeginsBody framing p.0 (body ++ take part.body rest) p.1) (λ i. (joined octets piece rest used part.used rest-is i, long i)) end

-- ---- what an agreeing reader says of the octets

-- the trailer section of the reader is open
trailer_open : (r : TrailerReader) (octets : List ℕ) → AgreesTrailer r octets → IsOpenTrailer octets
trailer_open r octets a = record {
  fields = a.fields;
  are = a.are;
  text = r.text;
  plain = a.plain;
  end = end_of r.returned;
  begun = begun r.returned;
  room = a.room;
  octets_are = a.octets_are;
}
  where
    begun : (b : Bool) → (end_of b ≡ []) ⊎ (end_of b ≡ 13 ∷ [])
    begun true = inr refl
    begun false = inl refl

pub framing_is_open : (framing : Framing) (r : FramingReader) (octets body : List ℕ) → AgreesFraming framing r octets body → IsOpenBody framing octets
framing_is_open framing r octets body agrees = go r.stage agrees
  where
    chunked : (f : Framing) → f ≡ Chunked → IsOpenChunked octets → IsOpenBody f octets
    chunked f is o = subst (λ (g : Framing). IsOpenBody g octets) (sym is) o

    go : (stage : FramingStage) → AgreesAt stage framing r octets body → IsOpenBody framing octets
    go at.Sized a = subst (λ (g : Framing). IsOpenBody g octets) (sym a.0) (omega (arith, a.1))
    go at.Line a = chunked framing a.0 (record {
      chunks = a.1.chunks;
      last = a.1.last;
      are = a.1.are;
      short = a.1.short;
      part = OpenLine (agrees_can r.line a.1.last a.1.line) (agrees_none r.line a.1.last a.1.line);
    })
    go at.Data a = chunked framing a.0 (record {
      chunks = a.2.chunks;
      last = a.2.last;
      are = a.2.are;
      short = omega (arith, a.2.short);
      part = OpenData a.2.size a.2.len a.2.line a.2.some a.2.short (inl (omega (arith, a.2.left_is)));
    })
    go at.CarriageReturn a = chunked framing a.0 (record {
      chunks = a.2.chunks;
      last = a.2.last;
      are = a.2.are;
      short = omega (arith, a.2.short);
      part = OpenData a.2.size a.2.len a.2.line a.2.some a.2.short (inl (omega (arith, a.2.left_is)));
    })
    go at.LineFeed a = chunked framing a.0 (record {
      chunks = a.1.chunks;
      last = a.1.last;
      are = a.1.are;
      short = omega (arith, a.1.short);
      part = OpenData (length a.1.chunk) a.1.len a.1.line a.1.some a.1.short (inr (a.1.chunk, refl, a.1.behind));
    })
    go at.Trailer a = chunked framing a.0 (record {
      chunks = a.1.chunks;
      last = a.1.last;
      are = a.1.are;
      short = a.1.short;
      part = OpenTrailer a.1.len a.1.line (trailer_open r.trailer (drop a.1.len a.1.last) a.1.trailer);
    })
    go at.UntilClose a = subst (λ (g : Framing). IsOpenBody g octets) (sym a.0) a.1

pub body_is_open : (framing : Framing) (r : BodyReader) (octets : List ℕ) → AgreesBody framing r octets → IsOpenBody framing octets
body_is_open framing r octets agrees = framing_is_open framing r.framing octets r.octets agrees

-- ---- bodies in the octets

-- a body that is open hasn't ended
pub open_has_no_body : (framing : Framing) (octets body : List ℕ) (len : ℕ) → IsOpenBody framing octets → BeginsBody framing octets body len → ⊥
open_has_no_body Nothing octets body len o b = o
open_has_no_body (Sized size) octets body len o b = absurd (omega (arith, o, b.enough))
open_has_no_body Chunked octets body len o b = open_chunked_has_none octets body (drop len octets) o b.is
open_has_no_body UntilClose octets body len o b = b

-- a body that breaks isn't there
pub broken_has_no_body : (fault : FrameFault) (framing : Framing) (octets body : List ℕ) (len : ℕ) → BreaksBody fault framing octets → BeginsBody framing octets body len → ⊥
broken_has_no_body BadChunk framing octets body len breaks b =
    let c = subst (λ (f : Framing). BeginsBody f octets body len) breaks.0 b in
    breaks.1 [] body (drop len octets) (subst (λ (o : List ℕ). IsChunkedThen o body (drop len octets)) (sym (append-nil octets)) c.is)
broken_has_no_body BodyTooLong Nothing octets body len breaks b = breaks
broken_has_no_body BodyTooLong (Sized size) octets body len breaks b = breaks
broken_has_no_body BodyTooLong Chunked octets body len breaks b =
    let on = body_behind breaks.chunks octets [] breaks.last body (drop len octets) breaks.are (subst (λ (o : List ℕ). IsChunkedThen o body (drop len octets)) (sym (append-nil octets)) b.is) in
    absurd (too_long breaks.size (subst (λ (x : List ℕ). BodyBehind breaks.chunks x body (drop len octets)) (append-nil breaks.last) on) breaks.line breaks.long)
  where
    too_long : (size : ℕ) → BodyBehind breaks.chunks breaks.last body (drop len octets) → BeginsChunkLine breaks.last size breaks.len → longest_body < length (concat breaks.chunks) + size → ⊥
    too_long zero on line long =
        absurd (omega (arith, long, b.short, ap length on.on.body_is, length-append (concat breaks.chunks) (concat on.on.more)))
    too_long (suc n) on line long =
        let c = chunk_behind breaks.chunks breaks.last body (drop len octets) (suc n) breaks.len on line (omega arith) in
        absurd (omega (arith, long, b.short, ap length c.body_is, length-append (concat breaks.chunks) (c.chunk ++ c.body_more), length-append c.chunk c.body_more, c.size_is))
broken_has_no_body BodyTooLong UntilClose octets body len breaks b = b
broken_has_no_body (Head f) framing octets body len breaks b = breaks
broken_has_no_body BothLengths framing octets body len breaks b = breaks
broken_has_no_body BadLength framing octets body len breaks b = breaks
broken_has_no_body BadCoding framing octets body len breaks b = breaks
broken_has_no_body Truncated framing octets body len breaks b = breaks
broken_has_no_body Memory framing octets body len breaks b = breaks
broken_has_no_body Failed framing octets body len breaks b = breaks

-- one body begins the octets, whatever follows
pub body_unique : (framing : Framing) (octets more a b : List ℕ) (m n : ℕ) → BeginsBody framing octets a m → BeginsBody framing (octets ++ more) b n → (a ≡ b) × (m ≡ n)
body_unique Nothing octets more a b m n p q = (p.0 ∙ sym q.0, p.1 ∙ sym q.1)
body_unique (Sized size) octets more a b m n p q =
    (p.body_is ∙ sym (take-append-le size octets more p.enough) ∙ sym q.body_is, p.len_is ∙ sym q.len_is)
body_unique Chunked octets more a b m n p q =
    let same = chunked_unique octets more a b (drop m octets) (drop n (octets ++ more)) p.is q.is in
    (same.0, omega (arith, ap length same.1, length-append (drop m octets) more, length-drop m octets, length-drop n (octets ++ more), length-append octets more, p.within, q.within))
body_unique UntilClose octets more a b m n p q = absurd p

pub body-append : (framing : Framing) (octets more body : List ℕ) (len : ℕ) → BeginsBody framing octets body len → BeginsBody framing (octets ++ more) body len
body-append Nothing octets more body len b = b
body-append (Sized size) octets more body len b = record {
  enough = omega (arith, b.enough, length-append octets more);
  body_is = b.body_is ∙ sym (take-append-le size octets more b.enough);
  len_is = b.len_is;
}
body-append Chunked octets more body len b = record {
  within = omega (arith, b.within, length-append octets more);
  is = subst (λ (o : List ℕ). IsChunkedThen (octets ++ more) body o) (sym (drop-append-le len octets more b.within)) (chunked-append octets more body (drop len octets) b.is);
  short = b.short;
}
body-append UntilClose octets more body len b = b

pub body_within : (framing : Framing) (octets body : List ℕ) (len : ℕ) → BeginsBody framing octets body len → len ≤ length octets
body_within Nothing octets body len b = omega (arith, b.1)
body_within (Sized size) octets body len b = omega (arith, b.len_is, b.enough)
body_within Chunked octets body len b = b.within
body_within UntilClose octets body len b = absurd b

-- ---- bodies that are all of the octets

pub whole_body : (framing : Framing) (octets body : List ℕ) (len : ℕ) → len ≡ length octets → BeginsBody framing octets body len → IsWholeBody framing octets body
whole_body Nothing octets body len is b = (b.0, sym is ∙ b.1)
whole_body (Sized size) octets body len is b = subst (BeginsBody (Sized size) octets body) is b
whole_body Chunked octets body len is b = subst (BeginsBody Chunked octets body) is b
whole_body UntilClose octets body len is b = absurd b

-- what has come of a body, where no more comes
pub framing_ends_whole : (frame : Framing) (r : FramingReader) (octets body : List ℕ) → AgreesFraming frame r octets body → frame ≡ UntilClose → IsWholeBody frame octets body
framing_ends_whole frame r octets body agrees is =
    subst (λ (f : Framing). IsWholeBody f octets body) (sym is) (go r.stage (subst (λ (f : Framing). AgreesFraming f r octets body) is agrees))
  where
    go : (stage : FramingStage) → AgreesAt stage UntilClose r octets body → (body ≡ octets) × (length octets ≤ longest_body)
    go at.Sized a = absurd (search (rules, a.0))
    go at.Line a = absurd (search (rules, a.0))
    go at.Data a = absurd (search (rules, a.0))
    go at.CarriageReturn a = absurd (search (rules, a.0))
    go at.LineFeed a = absurd (search (rules, a.0))
    go at.Trailer a = absurd (search (rules, a.0))
    go at.UntilClose a = (a.2, a.1)

pub ends_whole : (frame : Framing) (r : BodyReader) (octets : List ℕ) → AgreesBody frame r octets → frame ≡ UntilClose → IsWholeBody frame octets r.octets
ends_whole frame r octets agrees is = framing_ends_whole frame r.framing octets r.octets agrees is

pub one_whole_body : (framing : Framing) (octets a b : List ℕ) → IsWholeBody framing octets a → IsWholeBody framing octets b → a ≡ b
one_whole_body Nothing octets a b p q = p.0 ∙ sym q.0
one_whole_body (Sized size) octets a b p q = p.body_is ∙ sym q.body_is
one_whole_body Chunked octets a b p q =
    (body_unique Chunked octets [] a b (length octets) (length octets) p (subst (λ (o : List ℕ). BeginsBody Chunked o b (length octets)) (sym (append-nil octets)) q)).0
one_whole_body UntilClose octets a b p q = p.0 ∙ sym q.0

pub broken_is_not_whole : (fault : FrameFault) (framing : Framing) (octets body : List ℕ) → BreaksBody fault framing octets → IsWholeBody framing octets body → ⊥
broken_is_not_whole fault Nothing octets body breaks w = broken_has_no_body fault Nothing octets body (length octets) breaks w
broken_is_not_whole fault (Sized size) octets body breaks w = broken_has_no_body fault (Sized size) octets body (length octets) breaks w
broken_is_not_whole fault Chunked octets body breaks w = broken_has_no_body fault Chunked octets body (length octets) breaks w
broken_is_not_whole BadChunk UntilClose octets body breaks w = absurd (search (rules, breaks.0))
broken_is_not_whole BodyTooLong UntilClose octets body breaks w = absurd (omega (arith, breaks, w.1))
broken_is_not_whole (Head f) UntilClose octets body breaks w = breaks
broken_is_not_whole BothLengths UntilClose octets body breaks w = breaks
broken_is_not_whole BadLength UntilClose octets body breaks w = breaks
broken_is_not_whole BadCoding UntilClose octets body breaks w = breaks
broken_is_not_whole Truncated UntilClose octets body breaks w = breaks
broken_is_not_whole Memory UntilClose octets body breaks w = breaks
broken_is_not_whole Failed UntilClose octets body breaks w = breaks

pub open_is_not_whole : (framing : Framing) (octets body : List ℕ) → framing ≢ UntilClose → IsOpenBody framing octets → IsWholeBody framing octets body → ⊥
open_is_not_whole Nothing octets body until o w = o
open_is_not_whole (Sized size) octets body until o w = open_has_no_body (Sized size) octets body (length octets) o w
open_is_not_whole Chunked octets body until o w = open_has_no_body Chunked octets body (length octets) o w
open_is_not_whole UntilClose octets body until o w = until refl

pub shorter_is_not_whole : (framing : Framing) (octets a b : List ℕ) (len : ℕ) → BeginsBody framing octets a len → len < length octets → IsWholeBody framing octets b → ⊥
shorter_is_not_whole Nothing octets a b len p less w = absurd (omega (arith, p.1, less, w.1))
shorter_is_not_whole (Sized size) octets a b len p less w = absurd (omega (arith, p.len_is, less, w.len_is))
shorter_is_not_whole Chunked octets a b len p less w =
    absurd (omega (arith, less, (body_unique Chunked octets [] a b len (length octets) p (subst (λ (o : List ℕ). BeginsBody Chunked o b (length octets)) (sym (append-nil octets)) w)).1))
shorter_is_not_whole UntilClose octets a b len p less w = p
