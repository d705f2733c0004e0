-- The origins of members and what shows a refusal, as the code keeps them.
use Rattle.std.specs.Prelude.{ℕ, Bool, List, [], ◌∷◌, slice_index_or, if◌then◌else◌}
use Rattle.place_core.specs.declared.member.Member.{Member}
use Rattle.place_core.specs.declared.member.Member.TheVariants as member
use Rattle.html_step.specs.Laws.{EvidenceData, apart, one, two}
use Rattle.html_step.specs.declared.origins.Origins.{Origins}
use Rattle.html_step.specs.declared.evidence.Evidence.{Evidence as ReadShown}
use Rattle.html_step.specs.declared.evidence.Evidence.TheVariants as evidence

-- the members, and the number of each among them
abbrev pub all_members : List Member
all_members =
    member.Whole ∷ member.Typed ∷ member.CommentDash ∷ member.BlockLt ∷
    member.NameSpot ∷ member.BeforeSpot ∷ member.InsideSpot ∷ member.AfterSpot ∷
    member.UnquotedValue ∷ member.UnbegunValue ∷ member.PartStart ∷ member.PartOpen ∷
    member.PartOpenhole ∷ member.PartPrequery ∷ member.PartQuery ∷ member.PartBad ∷
    member.SenseRe ∷ member.SenseDiv ∷ member.SenseBrace ∷ member.JsWord ∷
    member.JsNum ∷ member.JsLt ∷ member.JsSlash ∷ member.JsPlus ∷
    member.JsMinus ∷ member.JsHash ∷ member.RegexpSlash ∷ member.JsStar ∷
    member.CssWord ∷ member.CssSlash ∷ member.CssLt ∷ member.CssStar ∷ []

abbrev pub member_number : Member → ℕ
member_number member.Whole = 0
member_number member.Typed = 1
member_number member.CommentDash = 2
member_number member.BlockLt = 3
member_number member.NameSpot = 4
member_number member.BeforeSpot = 5
member_number member.InsideSpot = 6
member_number member.AfterSpot = 7
member_number member.UnquotedValue = 8
member_number member.UnbegunValue = 9
member_number member.PartStart = 10
member_number member.PartOpen = 11
member_number member.PartOpenhole = 12
member_number member.PartPrequery = 13
member_number member.PartQuery = 14
member_number member.PartBad = 15
member_number member.SenseRe = 16
member_number member.SenseDiv = 17
member_number member.SenseBrace = 18
member_number member.JsWord = 19
member_number member.JsNum = 20
member_number member.JsLt = 21
member_number member.JsSlash = 22
member_number member.JsPlus = 23
member_number member.JsMinus = 24
member_number member.JsHash = 25
member_number member.RegexpSlash = 26
member_number member.JsStar = 27
member_number member.CssWord = 28
member_number member.CssSlash = 29
member_number member.CssLt = 30
member_number member.CssStar = 31

-- a table has by a member's number the one from which it comes
abbrev pub origin_at : Origins → Member → Member
origin_at table y = slice_index_or table.before (member_number y) member.Whole

abbrev pub evidence_at : ReadShown → EvidenceData
evidence_at (evidence.One x) = one x
evidence_at (evidence.Two x y) = two x y
evidence_at evidence.Apart = apart

-- What shows the same before some bytes, by the members from which members come there, and by what shows there that two paths met apart.
abbrev pub evidence_through : (Member → Member) → EvidenceData → EvidenceData → EvidenceData
evidence_through f met (one x) = one (f x)
evidence_through f met (two x y) = two (f x) (f y)
evidence_through f met apart = met

abbrev pub apart_through : (Member → Member) → EvidenceData → Bool → EvidenceData
apart_through f met kept = if kept then met else two (f member.PartStart) (f member.PartOpen)
