-- The laws of heads: those of hc_head, and that the fields show no other faults than those of framing.
use Rattle.std.specs.Prelude.{◌≡◌, ℕ, Bool, true, false, ◌&&◌, not, List, [], ◌∷◌, Option, Some, None, Result, Ok, Err, if◌then◌else◌, nat_lt, codes}
use Rattle.std.specs.Bool.{⊤}
use Rattle.std.proofs.Common.{subst}
use Rattle.std.specs.List.{flat_map}
use Rattle.std.specs.Option.{ok_or}
use Rattle.std.specs.Str.{str_eq_ignore_ascii_case}
use Rattle.hc_fields.specs.declared.fields.Field.{Field}
use Rattle.hc_fields.specs.Values.{values_of, has_name}
use Rattle.hc_head.specs.declared.head.Version.{Version}
use Rattle.hc_head.specs.declared.head.RequestHead.{RequestHead}
use Rattle.hc_head.specs.declared.head.ResponseHead.{ResponseHead}
use Rattle.hc_head.specs.Writable.{longest_body}
use Rattle.hc_framing.specs.declared.kind.Kind.{Kind}
use Rattle.hc_framing.specs.declared.fault.FrameFault.{FrameFault}
use Rattle.hc_framing.specs.declared.fault.FrameFault.TheVariants.{BothLengths, BadLength, BadCoding, BodyTooLong}
use Rattle.hc_framing.specs.declared.framing.Framing.{Framing}
use Rattle.hc_framing.specs.declared.framing.Framing.TheVariants.{Nothing, Sized, Chunked, UntilClose}
use Rattle.hc_fields.specs.Lists.{trimmed}
use Rattle.hc_framing.specs.Framing.{IsFramingFault, ◌>>=◌, refuse, members_of, first_length, each_writes, common_length, sized_by, sized, coded_by, coded, is_http10, framing_by, request_framing, ends_with_head, response_framing}
use Rattle.hc_head.specs.Laws.{request_unique, request_goes_on, request_within, request_some, request_front, request_ends_with_empty_line, request_at_its_first, response_unique, response_goes_on, response_within, response_some, response_front, response_ends_with_empty_line, response_at_its_first}
use Rattle.hc_framing.specs.Forms.{FormLaws}
use Rattle.hc_framing.specs.Messages.{answers_head, framing_of_request, request_form, framing_of_response, response_form}

-- if the result is a fault, it is one of these
abbrev pub OnlyFramingFaults : {A : Type 0} → Result A FrameFault → Type 0
OnlyFramingFaults (Ok a) = Unit {0}
OnlyFramingFaults (Err fault) = IsFramingFault fault

refused : {A : Type 0} (test : Bool) (fault : FrameFault) (next : ⊤ → Result A FrameFault) → IsFramingFault fault → OnlyFramingFaults (next tt)
    → OnlyFramingFaults (refuse test fault >>= next)
refused true fault next is rest = is
refused false fault next is rest = rest

bound : {A B : Type 0} (result : Result A FrameFault) (next : A → Result B FrameFault) → OnlyFramingFaults result → ((a : A) → OnlyFramingFaults (next a))
    → OnlyFramingFaults (result >>= next)
bound (Ok a) next is rest = rest a
bound (Err fault) next is rest = is

chosen : {A : Type 0} (test : Bool) (a b : Result A FrameFault) → OnlyFramingFaults a → OnlyFramingFaults b → OnlyFramingFaults (if test then a else b)
chosen true a b first second = first
chosen false a b first second = second

coded_faults : (values : List (List ℕ)) → OnlyFramingFaults (coded_by values)
coded_faults [] = tt
coded_faults (value ∷ []) = chosen (str_eq_ignore_ascii_case (trimmed value) (codes "chunked")) (Ok Chunked) (Err BadCoding) tt tt
coded_faults (value ∷ other ∷ values) = tt

sized_faults : (default : Framing) (values : List (List ℕ)) → OnlyFramingFaults (sized_by default values)
sized_faults default [] = tt
sized_faults default (value ∷ values) =
    bound (common_length members) (λ size. Ok (Sized size))
    (bound (ok_or (first_length members) BadLength) (λ size. refuse (not (each_writes size members)) BadLength >>= (λ _. refuse (nat_lt longest_body size) BodyTooLong >>= (λ _. Ok size)))
    (known (first_length members)) (λ size. refused (not (each_writes size members)) BadLength _ tt (refused (nat_lt longest_body size) BodyTooLong _ tt tt)))
    (λ size. tt)
  where
    members : List (List ℕ)
    members = flat_map members_of (value ∷ values)

    known : (first : Option ℕ) → OnlyFramingFaults (ok_or first BadLength)
    known None = tt
    known (Some size) = tt

framing_faults : (default : Framing) (version : Version) (fields : List Field) → OnlyFramingFaults (framing_by default version fields)
framing_faults default version fields =
    refused (has_name (codes "transfer-encoding") fields && has_name (codes "content-length") fields) BothLengths _ tt
    (refused (has_name (codes "transfer-encoding") fields && is_http10 version) BadLength _ tt
    (chosen (has_name (codes "transfer-encoding") fields) (coded fields) (sized default fields)
    (coded_faults (values_of (codes "transfer-encoding") fields)) (sized_faults default (values_of (codes "content-length") fields))))

shown : {A : Type 0} (result : Result A FrameFault) (fault : FrameFault) → OnlyFramingFaults result → result ≡ Err fault → IsFramingFault fault
shown result fault only is = subst OnlyFramingFaults is only

request_shows : (kind : Kind) (head : RequestHead) (fault : FrameFault) → framing_of_request kind head ≡ Err fault → IsFramingFault fault
request_shows kind head fault = shown (request_framing head.version head.fields) fault (framing_faults Nothing head.version head.fields)

response_shows : (kind : Kind) (head : ResponseHead) (fault : FrameFault) → framing_of_response kind head ≡ Err fault → IsFramingFault fault
response_shows kind head fault =
    shown (response_framing (answers_head kind) head.status head.version head.fields) fault
    (chosen (ends_with_head (answers_head kind) head.status) (Ok Nothing) (framing_by UntilClose head.version head.fields) tt (framing_faults UntilClose head.version head.fields))

pub request_laws : FormLaws request_form
request_laws = record {
  one_head = request_unique;
  goes_on = request_goes_on;
  within = request_within;
  some = request_some;
  front = request_front;
  ends_with_empty_line = request_ends_with_empty_line;
  at_its_first = request_at_its_first;
  shows = request_shows;
}

pub response_laws : FormLaws response_form
response_laws = record {
  one_head = response_unique;
  goes_on = response_goes_on;
  within = response_within;
  some = response_some;
  front = response_front;
  ends_with_empty_line = response_ends_with_empty_line;
  at_its_first = response_at_its_first;
  shows = response_shows;
}
