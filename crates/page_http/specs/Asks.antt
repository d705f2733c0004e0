-- What a request asks for, and when it is refused.
use Rattle.std.specs.Prelude.{◌≡◌, ℕ, Bool, true, false, ◌||◌, nat_lt, List, Option, Some, None, codes, if◌then◌else◌, Result, Ok, Err, ⊤}
use Rattle.std.specs.Str.{bytes_eq}
use Rattle.page_datum.specs.Data.{Data}
use Rattle.page_datum.specs.Reading.{IsDatum, IsNoDatum}
use Rattle.page_datum.specs.View.{view}
use Rattle.page_datum.specs.declared.refused.DataRefused.{DataRefused}
use Rattle.page_http.specs.Forms.{form_data}
use Rattle.page_http.specs.Refusals.{NamesMethods, refusal_reply, data_reply}
use Rattle.page_http.specs.Replies.{IsSendable}
use Rattle.page_http.specs.Routes.{DestinationData, page, number, reload, destination_of}
use Rattle.page_http.specs.declared.ask.Ask.{Ask}
use Rattle.page_http.specs.declared.ask.Ask.TheVariants as ask
use Rattle.page_http.specs.declared.ask.Plan.{Plan}
use Rattle.page_http.specs.declared.ask.Plan.TheVariants as plan
use Rattle.page_http.specs.declared.refusal.AskRefusal.{AskRefusal}
use Rattle.page_http.specs.declared.refusal.AskRefusal.TheVariants as refusal
use Rattle.page_http.specs.declared.reply.Allow.{Allow}
use Rattle.page_http.specs.declared.reply.Allow.TheVariants as allow
use Rattle.page_http.specs.declared.reply.Reply.{Reply}
use Rattle.page_http.specs.declared.request.AtLeast.{AtLeast}
use Rattle.page_http.specs.declared.request.AtLeast.TheVariants as least
use Rattle.page_http.specs.declared.request.BodyKind.{BodyKind}
use Rattle.page_http.specs.declared.request.BodyKind.TheVariants as kind
use Rattle.page_http.specs.declared.request.Request.{Request}

-- what is asked for, before the data are read: nothing, since the request is refused; the number; a
-- reload; a page of a name with the data of a form or of a JSON text
pub data Asked : Type 0 where
  refused : AskRefusal → Asked
  by_number : Asked
  by_reload : Asked
  by_form : List ℕ → List ℕ → Asked
  by_json : List ℕ → List ℕ → Asked

-- a GET gives a page the query's data, a POST the body's
abbrev pub posted : BodyKind → List ℕ → List ℕ → Asked
posted kind.Json name body = by_json name body
posted kind.Form name body = by_form name body
posted kind.Other name body = refused refusal.UnsupportedMediaType

abbrev pub plan_page : Request → List ℕ → Asked
plan_page r name =
    if bytes_eq r.method (codes "GET") then by_form name r.query else posted r.body_kind name r.body

abbrev pub plan_content : Request → DestinationData → Asked
plan_content r (page name) = plan_page r name
plan_content r number = by_number
plan_content r reload = by_reload

-- the number that is asked for, where the set's is less
abbrev pub behind : AtLeast → ℕ → Option ℕ
behind least.Absent n = None
behind (least.Number a) n = if nat_lt n a then Some a else None
behind least.Bad n = None

abbrev pub is_bad : AtLeast → Bool
is_bad least.Absent = false
is_bad (least.Number a) = false
is_bad least.Bad = true

abbrev pub methods_of : DestinationData → Allow
methods_of (page name) = allow.GetPost
methods_of number = allow.Get
methods_of reload = allow.Post

-- methods are the same in the same case alone (RFC 9110, section 9.1)
abbrev pub has_method : Allow → List ℕ → Bool
has_method allow.Nothing method = false
has_method allow.Get method = bytes_eq method (codes "GET")
has_method allow.Post method = bytes_eq method (codes "POST")
has_method allow.GetPost method = bytes_eq method (codes "GET") || bytes_eq method (codes "POST")

abbrev pub plan_current : Option ℕ → Request → DestinationData → Asked
plan_current (Some a) r destination = refused (refusal.Behind a)
plan_current None r destination = plan_content r destination

abbrev pub plan_destination : Request → DestinationData → ℕ → Asked
plan_destination r destination n =
    if has_method (methods_of destination) r.method then plan_current (behind r.at_least n) r destination
    else refused (refusal.MethodNotAllowed (methods_of destination))

abbrev pub plan_route : Option DestinationData → Request → ℕ → Asked
plan_route None r n = refused refusal.NotFound
plan_route (Some destination) r n = plan_destination r destination n

-- what a request asks of a set with the number n: the causes of refusals in their order
abbrev pub plan_of : Request → ℕ → Asked
plan_of r n =
    if is_bad r.at_least then refused refusal.BadRequest else plan_route (destination_of r.path) r n

-- the code's plan is this one
abbrev pub Plans : Asked → Plan → Type 0
Plans asked (plan.Refused why) = asked ≡ refused why
Plans asked plan.Number = asked ≡ by_number
Plans asked plan.Reload = asked ≡ by_reload
Plans asked (plan.Form name form) = asked ≡ by_form name.now form.now
Plans asked (plan.Json name json) = asked ≡ by_json name.now json.now

-- the page of a name with these data is asked for
abbrev pub AsksPage : Asked → List ℕ → Data → Type 0
AsksPage (by_form asked form) name d = (name ≡ asked) × (d ≡ form_data form)
AsksPage (by_json asked json) name d = (name ≡ asked) × IsDatum json d
AsksPage (refused why) name d = ⊥
AsksPage by_number name d = ⊥
AsksPage by_reload name d = ⊥

-- the request is refused with this reply
abbrev pub IsRefusedWith : Asked → ℕ → Reply → Type 0
IsRefusedWith (refused why) n reply = reply ≡ refusal_reply why n
IsRefusedWith (by_json name json) n reply =
    (why : DataRefused) × IsNoDatum why json × (reply ≡ data_reply why n)
IsRefusedWith (by_form name form) n reply = ⊥
IsRefusedWith by_number n reply = ⊥
IsRefusedWith by_reload n reply = ⊥

abbrev pub AskFor : {E : Type 0} → Asked → ℕ → Result Ask E → Type 0
AskFor asked n (Ok (ask.Page name datum)) = AsksPage asked name (view datum)
AskFor asked n (Ok ask.Number) = asked ≡ by_number
AskFor asked n (Ok ask.Reload) = asked ≡ by_reload
AskFor asked n (Ok (ask.Refused reply)) = IsRefusedWith asked n reply
AskFor asked n (Err e) = ⊤

-- what reading a request's ask answers, where the set has the number n
abbrev pub AskAnswers : {E : Type 0} → Request → ℕ → Result Ask E → Type 0
AskAnswers r n result = AskFor (plan_of r n) n result

-- a refusal can be sent
abbrev pub IsAskSendable : {E : Type 0} → Result Ask E → Type 0
IsAskSendable (Ok (ask.Page name datum)) = ⊤
IsAskSendable (Ok ask.Number) = ⊤
IsAskSendable (Ok ask.Reload) = ⊤
IsAskSendable (Ok (ask.Refused reply)) = IsSendable reply
IsAskSendable (Err e) = ⊤

-- what is refused in a plan can be sent
abbrev pub IsPlanSendable : Plan → Type 0
IsPlanSendable (plan.Refused why) = NamesMethods why
IsPlanSendable plan.Number = ⊤
IsPlanSendable plan.Reload = ⊤
IsPlanSendable (plan.Form name form) = ⊤
IsPlanSendable (plan.Json name json) = ⊤
