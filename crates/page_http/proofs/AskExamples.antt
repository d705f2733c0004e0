-- Where paths lead, what requests ask for and how they are answered, computed: what holds, and what does not.
use Rattle.std.proofs.Common.{◌≡◌, ℕ, Bool, true, false, List, [], ◌∷◌, ◌++◌, codes, Some, None, refl}
use Rattle.std.specs.Fmt.{digits}
use Rattle.page_http.specs.Routes.{destination_of, page, number, reload}
use Rattle.page_http.specs.Asks.{plan_of, refused, by_number, by_reload, by_form, by_json}
use Rattle.page_http.specs.Refusals.{plain_reply, behind_reply}
use Rattle.page_http.specs.Replies.{reply_text}
use Rattle.page_http.specs.declared.refusal.AskRefusal.TheVariants as refusal
use Rattle.page_http.specs.declared.reply.Allow.TheVariants as allow
use Rattle.page_http.specs.declared.request.AtLeast.{AtLeast}
use Rattle.page_http.specs.declared.request.AtLeast.TheVariants as least
use Rattle.page_http.specs.declared.request.BodyKind.{BodyKind}
use Rattle.page_http.specs.declared.request.BodyKind.TheVariants as kind
use Rattle.page_http.specs.declared.request.Request.{Request}

-- a name is one segment, and has a byte
one_segment : destination_of (codes "/p/a.html") ≡ Some (page (codes "a.html"))
one_segment = refl

two_segments : destination_of (codes "/p/a/b") ≡ None
two_segments = refl

no_name : destination_of (codes "/p/") ≡ None
no_name = refl

other_case : destination_of (codes "/P/a") ≡ None
other_case = refl

encoded : destination_of (codes "/p/a%2Fb") ≡ Some (page (codes "a%2Fb"))
encoded = refl

set : destination_of (codes "/set") ≡ Some number
set = refl

behind_set : destination_of (codes "/set/") ≡ None
behind_set = refl

reloads : destination_of (codes "/reload") ≡ Some reload
reloads = refl

abbrev request : List ℕ → List ℕ → AtLeast → BodyKind → Request
request method path at_least body_kind = record {
  method = method;
  path = path;
  query = codes "q";
  at_least = at_least;
  body_kind = body_kind;
  body = codes "b";
  close = false;
}

-- the query at GET, the body at POST
get_page : plan_of (request (codes "GET") (codes "/p/a") least.Absent kind.Json) 1 ≡ by_form (codes "a") (codes "q")
get_page = refl

post_page : plan_of (request (codes "POST") (codes "/p/a") least.Absent kind.Json) 1 ≡ by_json (codes "a") (codes "b")
post_page = refl

post_other : plan_of (request (codes "POST") (codes "/p/a") least.Absent kind.Other) 1 ≡ refused refusal.UnsupportedMediaType
post_other = refl

-- the causes in their order: no number, no destination, another method, a set that is behind, another type
no_number : plan_of (request (codes "DELETE") (codes "/none") least.Bad kind.Other) 1 ≡ refused refusal.BadRequest
no_number = refl

no_destination : plan_of (request (codes "DELETE") (codes "/none") (least.Number 9) kind.Other) 1 ≡ refused refusal.NotFound
no_destination = refl

other_method : plan_of (request (codes "DELETE") (codes "/set") (least.Number 9) kind.Other) 1 ≡ refused (refusal.MethodNotAllowed allow.Get)
other_method = refl

lower_case : plan_of (request (codes "get") (codes "/set") least.Absent kind.Other) 1 ≡ refused (refusal.MethodNotAllowed allow.Get)
lower_case = refl

is_behind : plan_of (request (codes "POST") (codes "/p/a") (least.Number 2) kind.Other) 1 ≡ refused (refusal.Behind 2)
is_behind = refl

not_behind : plan_of (request (codes "GET") (codes "/set") (least.Number 2) kind.Other) 2 ≡ by_number
not_behind = refl

reload_behind : plan_of (request (codes "POST") (codes "/reload") (least.Number 3) kind.Other) 2 ≡ refused (refusal.Behind 3)
reload_behind = refl

reload_asked : plan_of (request (codes "POST") (codes "/reload") least.Absent kind.Other) 2 ≡ by_reload
reload_asked = refl

-- a whole reply
not_allowed : reply_text (plain_reply 405 allow.GetPost 12) true
    ≡ codes "HTTP/1.1 405 Method Not Allowed\r\nContent-Type: text/plain; charset=utf-8\r\nContent-Length: 19\r\nSet-Number: 12\r\nAllow: GET, POST\r\nConnection: close\r\n\r\nMethod Not Allowed\n"
unfolding digits
not_allowed = refl

conflict : reply_text (behind_reply 4 3) false
    ≡ codes "HTTP/1.1 409 Conflict\r\nContent-Type: text/plain; charset=utf-8\r\nContent-Length: 11\r\nSet-Number: 3\r\nConnection: keep-alive\r\n\r\nbehind 4 3\n"
unfolding digits
conflict = refl
