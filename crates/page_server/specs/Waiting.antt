-- What stands at the front of the bytes that were read.
use Rattle.std.specs.Prelude.{◌≡◌, ◌≢◌, ◌⊎◌, ℕ, List, [], Option}
use Rattle.std.specs.Io.KnownBytes.{IsAtEnd}
use Rattle.page_http.specs.Bodies.{IsReadStatus}
use Rattle.page_http.specs.Requests.{IsMore, Refuses}
use Rattle.page_server.specs.Answering.{BeginsWithRequest}
use Rattle.page_server.specs.declared.end.LinkWhy.{LinkWhy}
use Rattle.page_server.specs.declared.end.LinkWhy.TheVariants as why
use Rattle.page_server.specs.declared.incoming.Incoming.{Incoming}
use Rattle.page_server.specs.declared.incoming.Incoming.TheVariants as incoming

-- there is nothing to answer yet: no bytes, or a part of a request
abbrev pub IsWaiting : List ℕ → Type 0
IsWaiting bytes = (bytes ≡ []) ⊎ IsMore bytes

-- what there is to answer; there are bytes
abbrev pub IsIncoming : List ℕ → Incoming → Type 0
IsIncoming bytes (incoming.Request r used) = BeginsWithRequest bytes r used
IsIncoming bytes (incoming.Refused status) = Refuses bytes status × IsReadStatus status × (bytes ≢ [])
IsIncoming bytes incoming.NoMemory = bytes ≢ []

-- reading stopped, while there was nothing to answer: the link's bytes ended between requests, or within one; or the link failed, or
-- there was no memory for more bytes
abbrev pub StopsReading : Option (List ℕ) → List ℕ → LinkWhy → Type 0
StopsReading left bytes why.Closed = (bytes ≡ []) × IsAtEnd left
StopsReading left bytes why.CutRequest = IsMore bytes × (bytes ≢ []) × IsAtEnd left
StopsReading left bytes why.Asked = ⊥
StopsReading left bytes why.Full = ⊥
StopsReading left bytes why.LinkFault = IsWaiting bytes
StopsReading left bytes why.Memory = IsWaiting bytes
