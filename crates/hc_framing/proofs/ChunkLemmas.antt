-- Chunks stand in octets in one way.
use Rattle.std.proofs.Common.{◌≡◌, ℕ, ◌<◌, List, [], ◌∷◌, ◌++◌, length, drop, refl, sym, ap, subst, ◌∙◌, arith, append_assoc, append-nil, length-append, inl, inr}
use Rattle.std.specs.List.{concat}
use Rattle.std.proofs.lemmas.List.{drop-append-le}
use Rattle.hc_framing.specs.ChunkLines.{BeginsChunkLine}
use Rattle.hc_framing.specs.Trailers.{IsTrailerThen}
use Rattle.hc_framing.specs.Chunks.{IsChunkThen, AreChunksThen, IsChunkedThen, IsOpenPart, OpenLine, OpenData, OpenTrailer, IsOpenChunked}
use Rattle.hc_framing.proofs.ListLemmas.{tail_is, fronts}
use Rattle.hc_framing.proofs.ChunkLineLemmas.{chunk_line_unique, chunk_line-append, chunk_line_within}
use Rattle.hc_framing.proofs.TrailerLemmas.{trailer_unique, trailer-append, open_has_none}

-- ---- one chunk

behind-append : (octets more chunk rest : List ℕ) → (c : IsChunkThen octets chunk rest) → drop c.len (octets ++ more) ≡ chunk ++ (13 ∷ 10 ∷ (rest ++ more))
behind-append octets more chunk rest c =
    drop-append-le c.len octets more (chunk_line_within octets (length chunk) c.len c.line) ∙ ap (λ (o : List ℕ). o ++ more) c.behind
    ∙ append_assoc chunk (13 ∷ 10 ∷ rest) more

pub chunk-append : (octets more chunk rest : List ℕ) → IsChunkThen octets chunk rest → IsChunkThen (octets ++ more) chunk (rest ++ more)
chunk-append octets more chunk rest c = record {
  len = c.len;
  line = chunk_line-append octets more (length chunk) c.len c.line;
  some = c.some;
  behind = behind-append octets more chunk rest c;
}

pub chunk_unique : (octets more a b r s : List ℕ) → IsChunkThen octets a r → IsChunkThen (octets ++ more) b s → (a ≡ b) × (r ++ more ≡ s)
chunk_unique octets more a b r s p q =
    let same = chunk_line_unique octets more (length a) (length b) p.len q.len p.line q.line in
    let behind : a ++ (13 ∷ 10 ∷ (r ++ more)) ≡ b ++ (13 ∷ 10 ∷ s) =
    sym (behind-append octets more a r p) ∙ ap (λ (n : ℕ). drop n (octets ++ more)) same.1 ∙ q.behind in
    let cut = fronts a b (13 ∷ 10 ∷ (r ++ more)) (13 ∷ 10 ∷ s) same.0 behind in
    (cut.0, (tail_is 10 10 _ _ (tail_is 13 13 _ _ cut.1).1).1)

-- ---- chunks

pub chunks-append : (chunks : List (List ℕ)) (octets more rest : List ℕ) → AreChunksThen chunks octets rest → AreChunksThen chunks (octets ++ more) (rest ++ more)
chunks-append [] octets more rest are = ap (λ (o : List ℕ). o ++ more) are
chunks-append (c ∷ cs) octets more rest are =
    (are.0 ++ more, (chunk-append octets more c are.0 are.1.0, chunks-append cs are.0 more rest are.1.1))

-- one more chunk
pub chunks_more : (chunks : List (List ℕ)) (chunk octets middle rest : List ℕ) → AreChunksThen chunks octets middle → IsChunkThen middle chunk rest
    → AreChunksThen (chunks ++ chunk ∷ []) octets rest
chunks_more [] chunk octets middle rest are is =
    (rest, (subst (λ (o : List ℕ). IsChunkThen o chunk rest) (sym are) is, refl))
chunks_more (c ∷ cs) chunk octets middle rest are is =
    (are.0, (are.1.0, chunks_more cs chunk are.0 middle rest are.1.1 is))

-- what else begins with the same chunks goes on behind them
pub record GoesOn (chunks : List (List ℕ)) (rest body last : List ℕ) : Type 0 where
  pub more : List (List ℕ)
  pub are : AreChunksThen more rest last
  pub body_is : body ≡ concat chunks ++ concat more

-- behind the chunks stands the rest of a chunked body that begins with the same octets
pub behind_chunks : (chunks others : List (List ℕ)) (octets more rest last : List ℕ) (len : ℕ) → AreChunksThen chunks octets rest
    → AreChunksThen others (octets ++ more) last → BeginsChunkLine last 0 len → GoesOn chunks (rest ++ more) (concat others) last
behind_chunks [] others octets more rest last len are those end =
    record { more = others; are = subst (λ (o : List ℕ). AreChunksThen others (o ++ more) last) are those; body_is = refl }
behind_chunks (c ∷ cs) [] octets more rest last len are those end =
    let same = chunk_line_unique octets more (length c) 0 are.1.0.len len are.1.0.line (subst (λ (o : List ℕ). BeginsChunkLine o 0 len) (sym those) end) in
    absurd (omega (arith, same.0, are.1.0.some))
behind_chunks (c ∷ cs) (d ∷ ds) octets more rest last len are those end =
    let same = chunk_unique octets more c d are.0 those.0 are.1.0 those.1.0 in
    let on = behind_chunks cs ds are.0 more rest last len are.1.1 (subst (λ (o : List ℕ). AreChunksThen ds o last) (sym same.1) those.1.1) end in
    record {
      more = on.more;
      are = on.are;
      body_is = ap (λ (x : List ℕ). x ++ concat ds) (sym same.0) ∙ ap (λ (x : List ℕ). c ++ x) on.body_is ∙ sym (append_assoc c (concat cs) (concat on.more));
    }

-- ---- chunked bodies

-- how a chunked body goes on behind chunks with which its octets begin
pub record BodyBehind (chunks : List (List ℕ)) (rest body after : List ℕ) : Type 0 where
  pub last : List ℕ
  pub on : GoesOn chunks rest body last
  pub len : ℕ
  pub line : BeginsChunkLine last 0 len
  pub trailer : IsTrailerThen (drop len last) after

pub body_behind : (chunks : List (List ℕ)) (octets more rest body after : List ℕ) → AreChunksThen chunks octets rest
    → IsChunkedThen (octets ++ more) body after → BodyBehind chunks (rest ++ more) body after
body_behind chunks octets more rest body after are is =
    let on = behind_chunks chunks is.chunks octets more rest is.last is.len are is.are is.line in
    record {
      last = is.last;
      on = record { more = on.more; are = on.are; body_is = is.body_is ∙ on.body_is };
      len = is.len;
      line = is.line;
      trailer = is.trailer;
    }

-- a chunked body begins with the line of a chunk
pub begins_with_line : (chunks : List (List ℕ)) (rest body after : List ℕ) → BodyBehind chunks rest body after → (size : ℕ) × (len : ℕ) × BeginsChunkLine rest size len
begins_with_line chunks rest body after b = go b.on.more b.on.are
  where
    go : (more : List (List ℕ)) → AreChunksThen more rest b.last → (size : ℕ) × (len : ℕ) × BeginsChunkLine rest size len
    go [] are = (0, b.len, subst (λ (o : List ℕ). BeginsChunkLine o 0 b.len) (sym are) b.line)
    go (c ∷ cs) are = (length c, are.1.0.len, are.1.0.line)

-- behind the line of a chunk of some size stands that chunk
pub record ChunkBehind (chunks : List (List ℕ)) (size len : ℕ) (rest body : List ℕ) : Type 0 where
  pub chunk : List ℕ
  pub size_is : length chunk ≡ size
  pub behind : List ℕ
  pub is : drop len rest ≡ chunk ++ (13 ∷ 10 ∷ behind)
  pub body_more : List ℕ
  pub body_is : body ≡ concat chunks ++ (chunk ++ body_more)

pub chunk_behind : (chunks : List (List ℕ)) (rest body after : List ℕ) (size len : ℕ) → BodyBehind chunks rest body after → BeginsChunkLine rest size len
    → 0 < size → ChunkBehind chunks size len rest body
chunk_behind chunks rest body after size len b line some = go b.on.more b.on.are b.on.body_is
  where
    same_line : (a m : ℕ) → BeginsChunkLine rest a m → (size ≡ a) × (len ≡ m)
    same_line a m other = chunk_line_unique rest [] size a len m line (subst (λ (o : List ℕ). BeginsChunkLine o a m) (sym (append-nil rest)) other)

    go : (more : List (List ℕ)) → AreChunksThen more rest b.last → body ≡ concat chunks ++ concat more → ChunkBehind chunks size len rest body
    go [] are body-is =
        let same = same_line 0 b.len (subst (λ (o : List ℕ). BeginsChunkLine o 0 b.len) (sym are) b.line) in
        absurd (omega (arith, same.0, some))
    go (c ∷ cs) are body-is =
        let same = same_line (length c) are.1.0.len are.1.0.line in
        record {
          chunk = c;
          size_is = sym same.0;
          behind = are.0;
          is = ap (λ (n : ℕ). drop n rest) same.1 ∙ are.1.0.behind;
          body_more = concat cs;
          body_is = body-is;
        }

-- behind the line of the last chunk stands the trailer section
pub trailer_behind : (chunks : List (List ℕ)) (rest body after : List ℕ) (len : ℕ) → BodyBehind chunks rest body after → BeginsChunkLine rest 0 len
    → IsTrailerThen (drop len rest) after × (body ≡ concat chunks)
trailer_behind chunks rest body after len b line = go b.on.more b.on.are b.on.body_is
  where
    same_line : (a m : ℕ) → BeginsChunkLine rest a m → (0 ≡ a) × (len ≡ m)
    same_line a m other = chunk_line_unique rest [] 0 a len m line (subst (λ (o : List ℕ). BeginsChunkLine o a m) (sym (append-nil rest)) other)

    go : (more : List (List ℕ)) → AreChunksThen more rest b.last → body ≡ concat chunks ++ concat more → IsTrailerThen (drop len rest) after × (body ≡ concat chunks)
    go [] are body-is =
        let same = same_line 0 b.len (subst (λ (o : List ℕ). BeginsChunkLine o 0 b.len) (sym are) b.line) in
        let drops : drop b.len b.last ≡ drop len rest = ap (λ (n : ℕ). drop n b.last) (sym same.1) ∙ ap (λ (o : List ℕ). drop len o) (sym are) in
        (subst (λ (o : List ℕ). IsTrailerThen o after) drops b.trailer, body-is ∙ append-nil (concat chunks))
    go (c ∷ cs) are body-is =
        absurd (omega (arith, (same_line (length c) are.1.0.len are.1.0.line).0, are.1.0.some))

-- ---- while a part is open, no body has ended

part_has_none : (chunks : List (List ℕ)) (rest body after : List ℕ) → BodyBehind chunks rest body after → IsOpenPart (length (concat chunks)) rest → ⊥
part_has_none chunks rest body after b (OpenLine can none) =
    let l = begins_with_line chunks rest body after b in none l.0 l.1 l.2
part_has_none chunks rest body after b (OpenData size len line some short (inl few)) =
    let c = chunk_behind chunks rest body after size len b line some in
    absurd (omega (arith, few, ap length c.is, c.size_is, length-append c.chunk (13 ∷ 10 ∷ c.behind)))
part_has_none chunks rest body after b (OpenData size len line some short (inr end)) =
    let c = chunk_behind chunks rest body after size len b line some in
    absurd (omega (arith, end.1, ap length end.2, ap length c.is, c.size_is, length-append c.chunk (13 ∷ 10 ∷ c.behind), length-append end.0 (13 ∷ [])))
part_has_none chunks rest body after b (OpenTrailer len line is) =
    open_has_none (drop len rest) after is (trailer_behind chunks rest body after len b line).0

pub open_chunked_has_none : (octets body rest : List ℕ) → IsOpenChunked octets → IsChunkedThen octets body rest → ⊥
open_chunked_has_none octets body rest o is =
    let b = body_behind o.chunks octets [] o.last body rest o.are (subst (λ (x : List ℕ). IsChunkedThen x body rest) (sym (append-nil octets)) is) in
    part_has_none o.chunks o.last body rest (subst (λ (x : List ℕ). BodyBehind o.chunks x body rest) (append-nil o.last) b) o.part

-- ---- a chunked body stands in one way

pub chunked-append : (octets more body rest : List ℕ) → IsChunkedThen octets body rest → IsChunkedThen (octets ++ more) body (rest ++ more)
chunked-append octets more body rest is = record {
  chunks = is.chunks;
  last = is.last ++ more;
  are = chunks-append is.chunks octets more is.last is.are;
  len = is.len;
  line = chunk_line-append is.last more 0 is.len is.line;
  trailer =
      subst (λ (o : List ℕ). IsTrailerThen o (rest ++ more)) (sym (drop-append-le is.len is.last more (chunk_line_within is.last 0 is.len is.line)))
      (trailer-append (drop is.len is.last) more rest is.trailer);
  body_is = is.body_is;
}

pub chunked_unique : (octets more a b r s : List ℕ) → IsChunkedThen octets a r → IsChunkedThen (octets ++ more) b s → (a ≡ b) × (s ≡ r ++ more)
chunked_unique octets more a b r s p q =
    let on = body_behind p.chunks octets more p.last b s p.are q in
    let t = trailer_behind p.chunks (p.last ++ more) b s p.len on (chunk_line-append p.last more 0 p.len p.line) in
    let drops = drop-append-le p.len p.last more (chunk_line_within p.last 0 p.len p.line) in
    (p.body_is ∙ sym t.1, trailer_unique (drop p.len p.last) more r s p.trailer (subst (λ (o : List ℕ). IsTrailerThen o s) drops t.0))
