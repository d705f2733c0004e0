-- The replies to refused requests.
use Rattle.std.specs.Prelude.{◌≢◌, ℕ, false, List, [], ◌∷◌, ◌++◌, codes, ⊤}
use Rattle.std.specs.Fmt.{decimal}
use Rattle.page_datum.specs.Kinds.{data_refusal}
use Rattle.page_datum.specs.declared.refused.DataRefused.{DataRefused}
use Rattle.page_http.specs.Replies.{phrase}
use Rattle.page_http.specs.declared.reply.Allow.{Allow}
use Rattle.page_http.specs.declared.reply.Allow.TheVariants as allow
use Rattle.page_http.specs.declared.reply.Reply.{Reply}
use Rattle.page_http.specs.declared.refusal.AskRefusal.{AskRefusal}
use Rattle.page_http.specs.declared.refusal.AskRefusal.TheVariants as refusal

-- a plain text
abbrev pub text_reply : ℕ → Allow → ℕ → List ℕ → Reply
text_reply status methods number text =
    record { status = status; html = false; number = number; allow = methods; body = text }

-- the phrase of the status, and a line feed
abbrev pub plain_reply : ℕ → Allow → ℕ → Reply
plain_reply status methods number = text_reply status methods number (phrase status ++ 10 ∷ [])

abbrev pub phrase_reply : ℕ → ℕ → Reply
phrase_reply status number = plain_reply status allow.Nothing number

-- the number that is asked for, and the one that the set has
abbrev pub behind_reply : ℕ → ℕ → Reply
behind_reply at_least number =
    text_reply 409 allow.Nothing number
    (codes "behind " ++ (decimal at_least ++ 32 ∷ (decimal number ++ 10 ∷ [])))

-- why the body is no data
abbrev pub data_reply : DataRefused → ℕ → Reply
data_reply why number =
    text_reply 400 allow.Nothing number (codes "data " ++ (data_refusal why ++ 10 ∷ []))

abbrev pub refusal_reply : AskRefusal → ℕ → Reply
refusal_reply refusal.BadRequest number = phrase_reply 400 number
refusal_reply refusal.NotFound number = phrase_reply 404 number
refusal_reply (refusal.MethodNotAllowed methods) number = plain_reply 405 methods number
refusal_reply (refusal.Behind at_least) number = behind_reply at_least number
refusal_reply refusal.UnsupportedMediaType number = phrase_reply 415 number

-- a refusal for the method names other methods
abbrev pub NamesMethods : AskRefusal → Type 0
NamesMethods (refusal.MethodNotAllowed methods) = methods ≢ allow.Nothing
NamesMethods refusal.BadRequest = ⊤
NamesMethods refusal.NotFound = ⊤
NamesMethods (refusal.Behind at_least) = ⊤
NamesMethods refusal.UnsupportedMediaType = ⊤
