-- What is known of the wrong replies that were listed.
use Rattle.std.specs.Prelude.{◌≡◌, ◌⊎◌, ◌++◌, ◌∷◌, [], ℕ, ◌-◌, ◌^◌, List, min, length, take, slice_get}
use Rattle.hc_history.specs.declared.wrong.WrongReply.{WrongReply}
use Rattle.hc_figures.specs.declared.listed.ListedReplies.{ListedReplies}
use Rattle.hc_figures.specs.declared.listed.ListedReply.{ListedReply}
use Rattle.hc_figures.specs.declared.listed.ShownRequest.{ShownRequest}
use Rattle.hc_figures.specs.Requests.{ShowsAs}
use Rattle.hc_figures.specs.Wrongs.{wrongs_of}

-- how many are listed at most
abbrev pub most_listed : ℕ
most_listed = 1000

-- of these wrong replies their count, up to the greatest number, the first and the first 1,000 are kept
pub record AreListed (listed : ListedReplies) (wrongs : List WrongReply) : Type 0 where
  pub count : listed.count ≡ min (length wrongs) (2 ^ 64 - 1)
  pub first : listed.first ≡ slice_get wrongs 0
  pub front : wrongs_of listed.listed.items ≡ take most_listed wrongs

-- what was listed next of a wrong reply: nothing, or that one, with the same of its request
abbrev pub ListsNext : List ListedReply → List ListedReply → WrongReply → ShownRequest → Type 0
ListsNext old new wrong request = (new ≡ old) ⊎ ((reply : ListedReply) × (new ≡ old ++ reply ∷ []) × (reply.wrong ≡ wrong) × ShowsAs request reply.request)
