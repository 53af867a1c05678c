-- What outlets get for one record more.
use Rattle.std.proofs.Common.{◌≡◌, ℕ, Bool, true, false, cond, List, [], ◌∷◌, ◌++◌, Option, None, Some, refl, sym, ap, subst, ◌∙◌, arith, append_assoc, append-nil}
use Rattle.std.specs.Prelude.{◌==◌}
use Rattle.std.specs.Io.KnownBytes.{Appends}
use Rattle.std.proofs.lemmas.Bool.Decides.{nat_tests}
use Rattle.hc_head.specs.declared.head.Target.{Target}
use Rattle.hc_transcript.specs.declared.format.Format.{Format}
use Rattle.hc_transcript.specs.declared.reader.RecordReader.{RecordReader}
use Rattle.hc_transcript.specs.declared.record.Record.{Record}
use Rattle.hc_transcript.specs.Items.{Item}
use Rattle.hc_transcript.specs.History.{next_position}
use Rattle.hc_transcript.specs.Reader.{Agrees, text_lent}
use Rattle.hc_transcript.specs.Records.{record_text, records_text}
use Rattle.hc_parts.specs.Parts.{KeepsCauses, goes_into, is_of_part, records_in, target_about}
use Rattle.hc_split.specs.declared.outlets.Outlet.{Outlet}
use Rattle.hc_split.specs.Outlets.{position_line, table_of, text_of}
use Rattle.hc_split.specs.declared.parts.Parts.{Parts}
use Rattle.hc_split.specs.declared.splitter.Splitter.{Splitter}
use Rattle.hc_split.specs.Parting.{part_by}
use Rattle.hc_split.specs.Routing.{IsRouted, RoutesAs}
use Rattle.hc_split.specs.Splitting.{AreGiven, GetsMore, HasRead, IsSplitting, ReadsOne, SplitsOn, positions_in, table_text}

-- ---- octets that are appended

appends_twice : (a b c : Option (List ℕ)) (x y : List ℕ) → Appends a b x → Appends b c y → Appends a c (x ++ y)
appends_twice None b c x y one two = tt
appends_twice (Some a) None c x y one two = absurd one
appends_twice (Some a) (Some b) None x y one two = absurd two
appends_twice (Some a) (Some b) (Some c) x y one two = two ∙ ap (λ (o : List ℕ). o ++ y) one ∙ append_assoc a x y

appends_nothing : (a : Option (List ℕ)) → Appends a a []
appends_nothing None = tt
appends_nothing (Some a) = sym (append-nil a)

gets_nothing : (a : Option (List ℕ)) (text : List ℕ) → GetsMore a a text text
gets_nothing a text = ([], appends_nothing a, sym (append-nil text))

gets_twice : (a b c : Option (List ℕ)) (one two three : List ℕ) → GetsMore a b one two → GetsMore b c two three → GetsMore a c one three
gets_twice a b c one two three first then-more = (
  first.0 ++ then-more.0,
  appends_twice a b c first.0 then-more.0 first.1 then-more.1,
  then-more.2 ∙ ap (λ (o : List ℕ). o ++ then-more.0) first.2 ∙ append_assoc one first.0 then-more.0,
)

-- ---- where a record goes

-- what goes into one part goes into that alone
goes_by : (part : Target → ℕ) (k n : ℕ) (o : Option Target) → is_of_part part k o ≡ true → is_of_part part n o ≡ (k == n)
goes_by part k n None is = absurd cc
goes_by part k n (Some target) is = ap (λ (m : ℕ). m == n) (same (part target) k is)
  where
    same : (a b : ℕ) → (a == b) ≡ true → a ≡ b
    same a b test = grind (arith, nat_tests, test)

text_more : (format : Format) (b : Bool) (one : Record) (records : List Record)
    → records_text format (cond b (one ∷ records) records) ≡ records_text format records ++ cond b (record_text format one) []
text_more format true one records = refl
text_more format false one records = sym (append-nil (records_text format records))

table_more_behind : (positions : List ℕ) (position : ℕ) → table_text (positions ++ position ∷ []) ≡ table_text positions ++ position_line position
table_more_behind [] position = append-nil (position_line position)
table_more_behind (p ∷ positions) position =
    ap (λ (t : List ℕ). position_line p ++ t) (table_more_behind positions position) ∙ sym (append_assoc (position_line p) (table_text positions) (position_line position))

table_more : (b : Bool) (positions : List ℕ) (position : ℕ) → table_text (cond b (positions ++ position ∷ []) positions) ≡ table_text positions ++ cond b (position_line position) []
table_more true positions position = table_more_behind positions position
table_more false positions position = sym (append-nil (table_text positions))

module _ {W : Type 0} (contents : W → Option (List ℕ)) (part : Target → ℕ) (format : Format) where
  -- ---- the outlets

  pub given_nothing : (outlets : List (Outlet W)) (records : List Record) (h : List Item) → AreGiven contents part format outlets outlets records h records h
  given_nothing outlets records h = record {
    texts = λ k. gets_nothing (text_of contents outlets k) (records_text format (records_in part k records h));
    tables = λ k. gets_nothing (table_of contents outlets k) (table_text (positions_in part k h));
  }

  pub given_on : (first middle last : List (Outlet W)) (records others more : List Record) (h g i : List Item)
      → AreGiven contents part format first middle records h others g → AreGiven contents part format middle last others g more i
      → AreGiven contents part format first last records h more i
  given_on first middle last records others more h g i before after = record {
    texts = λ k. gets_twice (text_of contents first k) (text_of contents middle k) (text_of contents last k) _ _ _ (before.texts k) (after.texts k);
    tables = λ k. gets_twice (table_of contents first k) (table_of contents middle k) (table_of contents last k) _ _ _ (before.tables k) (after.tables k);
  }

  -- one record more goes into its part
  pub given_one : (before after : List (Outlet W)) (k position : ℕ) (octets : List ℕ) (records : List Record) (h : List Item) (one : Record) (item : Item)
      → goes_into part k h item ≡ true → octets ≡ record_text format one → position ≡ next_position h
      → ((n : ℕ) → Appends (text_of contents before n) (text_of contents after n) (cond (k == n) octets []))
      → ((n : ℕ) → Appends (table_of contents before n) (table_of contents after n) (cond (k == n) (position_line position) []))
      → AreGiven contents part format before after records h (one ∷ records) (item ∷ h)
  given_one before after k position octets records h one item goes text-is position-is texts tables = record {
    texts = λ n. (
      cond (k == n) octets [],
      texts n,
      text_more format (goes_into part n h item) one (records_in part n records h)
          ∙ ap (λ (b : Bool). records_text format (records_in part n records h) ++ cond b (record_text format one) []) (goes_by part k n (target_about h item) goes)
          ∙ ap (λ (o : List ℕ). records_text format (records_in part n records h) ++ cond (k == n) o []) (sym text-is),
    );
    tables = λ n. (
      cond (k == n) (position_line position) [],
      tables n,
      table_more (goes_into part n h item) (positions_in part n h) (next_position h)
          ∙ ap (λ (b : Bool). table_text (positions_in part n h) ++ cond b (position_line (next_position h)) []) (goes_by part k n (target_about h item) goes)
          ∙ ap (λ (p : ℕ). table_text (positions_in part n h) ++ cond (k == n) (position_line p) []) (sym position-is),
    );
  }

-- ---- the splitter

module _ {W : Type 0} (contents : W → Option (List ℕ)) where
  -- what a splitter goes on from, another one with the same parts and format goes on from
  pub splits_from : (before after : List (Outlet W)) (first same last : Splitter) (octets : List ℕ) (records : List Record) (h : List Item)
      → same.parts ≡ first.parts → same.format ≡ first.format → SplitsOn contents before after same last octets records h → SplitsOn contents before after first last octets records h
  splits_from before after first same last octets records h parts format on = record {
    others = on.others;
    items = on.items;
    is = on.is;
    same_parts = on.same_parts ∙ parts;
    same_format = on.same_format ∙ format;
    given = subst (λ (f : Format). AreGiven contents (part_by first.parts) f before after records h on.others on.items) format
        (subst (λ (p : Parts). AreGiven contents (part_by p) same.format before after records h on.others on.items) parts on.given);
  }

  pub splits_nothing : (outlets : List (Outlet W)) (first last : Splitter) (octets : List ℕ) (records : List Record) (h : List Item) → IsSplitting last octets records h
      → last.parts ≡ first.parts → last.format ≡ first.format → SplitsOn contents outlets outlets first last octets records h
  splits_nothing outlets first last octets records h is parts format = record {
    others = records;
    items = h;
    is = is;
    same_parts = parts;
    same_format = format;
    given = given_nothing contents (part_by first.parts) first.format outlets records h;
  }

  -- one goes on from where another one has come to, by octets that go on too
  pub splits_on : (before middle after : List (Outlet W)) (first mid last : Splitter) (octets more : List ℕ) (records : List Record) (h : List Item)
      → (one : SplitsOn contents before middle first mid octets records h) → SplitsOn contents middle after mid last more one.others one.items
      → SplitsOn contents before after first last more records h
  splits_on before middle after first mid last octets more records h one two =
      let on = splits_from middle after first mid last more one.others one.items one.same_parts one.same_format two in
      record {
        others = on.others;
        items = on.items;
        is = on.is;
        same_parts = on.same_parts;
        same_format = on.same_format;
        given = given_on contents (part_by first.parts) first.format before middle after records one.others on.others h one.items on.items one.given on.given;
      }

  -- a record that was read goes where it is routed
  pub splits_one : (before after : List (Outlet W)) (first read last : Splitter) (k position : ℕ) (text : List ℕ) (octets : List ℕ) (records : List Record) (h : List Item)
      → (r : ReadsOne read octets records h) → read.parts ≡ first.parts → read.format ≡ first.format → last.reader ≡ read.reader → last.parts ≡ read.parts → last.format ≡ read.format
      → IsRouted (part_by read.parts) last.routes h r.item k → text ≡ text_lent read.reader → position ≡ next_position h
      → ((n : ℕ) → Appends (text_of contents before n) (text_of contents after n) (cond (k == n) text []))
      → ((n : ℕ) → Appends (table_of contents before n) (table_of contents after n) (cond (k == n) (position_line position) []))
      → SplitsOn contents before after first last octets records h
  splits_one before after first read last k position text octets records h r first-parts first-format same-reader same-parts same-format routed text-is position-is texts tables =
      splits_from before after first read last octets records h first-parts first-format (record {
        others = r.one ∷ records;
        items = r.item ∷ h;
        is = record {
          reads = subst (λ (t : RecordReader). Agrees t octets (r.one ∷ records) (r.item ∷ h)) (sym same-reader) r.reads;
          routes = subst (λ (p : Parts). RoutesAs (part_by p) last.routes (r.item ∷ h)) (sym same-parts) routed.routes_are;
          keeps = subst (λ (p : Parts). KeepsCauses (part_by p) (r.item ∷ h)) (sym same-parts) (r.keeps, routed.keeps);
        };
        same_parts = same-parts;
        same_format = same-format;
        given = given_one contents (part_by read.parts) read.format before after k position text records h r.one r.item routed.goes (text-is ∙ r.text_is) position-is texts tables;
      })

-- ---- whether one was read

pub read_one : (b : Bool) (s : Splitter) (octets : List ℕ) (records : List Record) (h : List Item) → b ≡ true → HasRead b s octets records h → ReadsOne s octets records h
read_one true s octets records h is r = r
read_one false s octets records h is r = absurd cc

pub none_read : (b : Bool) (s : Splitter) (octets : List ℕ) (records : List Record) (h : List Item) → b ≡ false → HasRead b s octets records h → IsSplitting s octets records h
none_read true s octets records h is r = absurd cc
none_read false s octets records h is r = r
