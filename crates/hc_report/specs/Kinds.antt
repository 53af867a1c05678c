-- By what wrong replies are counted: why they are wrong, and the method and the target of the requests that they answer, as these are shown.
use Rattle.std.specs.Prelude.{◌≡◌, ◌≤◌, ℕ, List, [], ◌∷◌, Option, Some, None, length, map, string_bytes}
use Rattle.hc_transcript.specs.Items.{Exchange, Item}
use Rattle.hc_history.specs.declared.reasons.Reason.{Reason}
use Rattle.hc_history.specs.declared.wrong.WrongReply.{WrongReply}
use Rattle.hc_past.specs.Standing.{exchange_at}
use Rattle.hc_shown.specs.Octets.{octets_text}
use Rattle.hc_shown.specs.Values.{target_text}
use Rattle.hc_figures.specs.Kinds.{Kind}
use Rattle.hc_figures.specs.declared.listed.ListedReply.{ListedReply}
use Rattle.hc_figures.specs.declared.listed.ShownRequest.{ShownRequest}
use Rattle.hc_figures.specs.Requests.{kind_text}

-- ---- a request

-- what is shown of the method and of the target of an exchange: nothing where none is open
abbrev pub method_shown : Option Exchange → List ℕ
method_shown None = []
method_shown (Some exchange) = octets_text exchange.request.method

abbrev pub target_shown : Option Exchange → List ℕ
target_shown None = []
target_shown (Some exchange) = target_text exchange.target

pub record IsShownOf (exchange : Option Exchange) (shown : ShownRequest) : Type 0 where
  pub method : string_bytes shown.method ≡ method_shown exchange
  pub target : string_bytes shown.target ≡ target_shown exchange

-- ---- a kind

abbrev pub kind_to : Option Exchange → Reason → Kind
kind_to exchange why = kind_text why (method_shown exchange) (target_shown exchange)

-- ---- the kinds of the wrong replies of a history

abbrev pub kind_in : List Item → WrongReply → Kind
kind_in h wrong = kind_to (exchange_at wrong.position h) wrong.reason

abbrev pub kinds_in : List Item → List WrongReply → List Kind
kinds_in h wrongs = map (kind_in h) wrongs

-- ---- the requests of those that are listed

-- it stands among these items, and what is listed with it is shown of the request that it answers
pub record IsShownIn (h : List Item) (reply : ListedReply) : Type 0 where
  pub stands : reply.wrong.position ≤ length h
  pub shown : IsShownOf (exchange_at reply.wrong.position h) reply.request

abbrev pub AreShownIn : List Item → List ListedReply → Type 0
AreShownIn h [] = Unit {0}
AreShownIn h (reply ∷ replies) = IsShownIn h reply × AreShownIn h replies
