-- What is secret: the one table of names.
use Rattle.std.specs.Prelude.{ℕ, Bool, false, ◌||◌, List, [], ◌∷◌, length, map, take, codes}
use Rattle.std.specs.List.{list_any}
use Rattle.std.specs.Str.{bytes_eq, str_eq_ignore_ascii_case}
use Rattle.std.specs.Char.{to_ascii_lowercase}

-- the names of the fields that bear credentials, or what stands for them; they are compared in any case
abbrev pub credential_names : List (List ℕ)
credential_names =
    codes "authorization" ∷ codes "proxy-authorization" ∷ codes "authentication-info" ∷ codes "www-authenticate" ∷ codes "cookie"
    ∷ codes "set-cookie" ∷ codes "set-cookie2" ∷ codes "x-api-key" ∷ codes "x-auth-token" ∷ []

abbrev pub is_credential : List ℕ → Bool
is_credential name = list_any (λ known. bytes_eq (map to_ascii_lowercase name) known) credential_names

-- the words of which one stands in the name of a parameter whose value is secret
abbrev pub secret_words : List (List ℕ)
secret_words =
    codes "token" ∷ codes "key" ∷ codes "secret" ∷ codes "password" ∷ codes "signature" ∷ codes "code" ∷ codes "session" ∷ []

-- whether a word stands in a name, in any case
abbrev pub has_word : List ℕ → List ℕ → Bool
has_word [] word = false
has_word (octet ∷ rest) word = str_eq_ignore_ascii_case (take (length word) (octet ∷ rest)) word || has_word rest word

abbrev pub is_secret_name : List ℕ → Bool
is_secret_name name = list_any (has_word name) secret_words
