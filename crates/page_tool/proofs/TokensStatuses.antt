-- The status of `tokens`, its causes and its lines.
use Rattle.std.proofs.Common.{◌≡◌, ◌≢◌, ◌<◌, ◌≤◌, ◌++◌, ℕ, List, [], Option, None, Some, Result, Ok, Err, length, refl, sym, ap, ◌∙◌, append-nil, subst, inl, inr, arith}
use Rattle.std.proofs.lemmas.List.{length-append}
use Rattle.std.specs.Io.KnownBytes.{Appends, Consumes, IsAtEnd}
use Rattle.std.specs.Prelude.{IfSome, ◌⊎◌, ⊤}
use Rattle.page_datum.specs.declared.refused.DataRefused.{DataRefused}
use Rattle.page_datum.specs.declared.refused.DataRefused.TheVariants.{TooLong, TooDeep, NotJson, NotWhole, Memory}
use Rattle.page_io.specs.Whole.{AppendsPart, ReadsUpTo}
use Rattle.page_tool.specs.Codes.{status_for}
use Rattle.page_tool.specs.Exact.{Ends}
use Rattle.page_tool.specs.Lines.{Says, stop_text}
use Rattle.page_tool.specs.Listing.{IsPageRefusedFor, IsPageTooLong, IsPageWithin, ReadInputAnswers, ListTokensAnswers, TokensCause}
use Rattle.page_tool.specs.Listing.{TokensExact, TokensLines, TokensOutput, TokensTextAnswers, WritesTokens, WritesTokensPart, max_page_length, tokens_text}
use Rattle.page_tool.specs.SetTexts.{WriteTextAnswers}
use Rattle.page_tool.specs.declared.status.Status.{Status}
use Rattle.page_tool.specs.declared.status.Status.TheVariants as status
use Rattle.page_tool.specs.declared.stop.CommandStop.{CommandStop}
use Rattle.page_tool.specs.declared.stop.CommandStop.TheVariants as stop
use Rattle.page_tool.proofs.Statuses.{IsPlain, IsReported, reported, reported_plain}

-- what was read of an input is all of it, where it is no longer than the limit
whole : (all rest page : List ℕ) → all ≡ page ++ rest → rest ≡ [] → page ≡ all
whole all rest page e end = sym (e ∙ ap (λ (xs : List ℕ). page ++ xs) end ∙ append-nil page)

pub page_read : (old new : Option (List ℕ)) (page : List ℕ) → ReadsUpTo max_page_length old new page → length page ≤ max_page_length → ReadInputAnswers old (Ok page)
page_read None new page r h = tt
page_read (Some all) None page r h = absurd r.read
page_read (Some all) (Some rest) page r h =
    let is = whole all rest page r.read (r.short h) in
    (subst (λ (xs : List ℕ). length xs ≤ max_page_length) is h, is)

pub page_refused : (old new : Option (List ℕ)) (page : List ℕ) (len : ℕ) → ReadsUpTo max_page_length old new page → max_page_length < length page
    → ReadInputAnswers old (Err (stop.Data (TooLong len)))
page_refused None new page len r h = tt
page_refused (Some all) None page len r h = absurd r.read
page_refused (Some all) (Some rest) page len r h = omega (arith, h, ap length r.read, length-append page rest)

-- what is printed is printed of the page that was read
pub page_printed : (left : Option (List ℕ)) (page text : List ℕ) → ReadInputAnswers left (Ok page) → text ≡ tokens_text page → TokensTextAnswers left (Ok text)
page_printed None page text r e = tt
page_printed (Some all) page text r e = (r.0, e ∙ ap tokens_text r.1)

pub page_stopped : (left : Option (List ℕ)) (why : CommandStop) → ReadInputAnswers left (Err why) → TokensTextAnswers left (Err why)
page_stopped left (stop.Set why) r = absurd r
page_stopped left (stop.Fault fault) r = absurd r
page_stopped left (stop.Data why) r = r
page_stopped left stop.Read r = tt
page_stopped left stop.Write r = absurd r
page_stopped left stop.NoTemplate r = absurd r
page_stopped left stop.Memory r = tt

-- writing the text writes the tokens, or a prefix of them
all_written : (left : Option (List ℕ)) (text : List ℕ) (old new : Option (List ℕ)) → TokensTextAnswers left (Ok text) → Appends old new text → WritesTokens left old new
all_written None text old new t w = tt
all_written (Some page) text old new t w = (t.0, subst (λ (xs : List ℕ). Appends old new xs) t.1 w)

part_written : (left : Option (List ℕ)) (text : List ℕ) (old new : Option (List ℕ)) → TokensTextAnswers left (Ok text) → AppendsPart old new text → WritesTokensPart left old new
part_written None text old new t w = tt
part_written (Some page) text old new t w = (t.0, subst (λ (xs : List ℕ). AppendsPart old new xs) t.1 w)

pub tokens_written : (left : Option (List ℕ)) (text : List ℕ) (old new : Option (List ℕ)) (r : Result ⊤ CommandStop) → TokensTextAnswers left (Ok text)
    → WriteTextAnswers text old new r → ListTokensAnswers left old new r
tokens_written left text old new (Ok _) t w = all_written left text old new t w
tokens_written left text old new (Err (stop.Set why)) t w = absurd w
tokens_written left text old new (Err (stop.Fault fault)) t w = absurd w
tokens_written left text old new (Err (stop.Data why)) t w = absurd w
tokens_written left text old new (Err stop.Read) t w = absurd w
tokens_written left text old new (Err stop.Write) t w = part_written left text old new t w
tokens_written left text old new (Err stop.NoTemplate) t w = absurd w
tokens_written left text old new (Err stop.Memory) t w = absurd w

pub tokens_stopped : (left old : Option (List ℕ)) (why : CommandStop) → TokensTextAnswers left (Err why) → ListTokensAnswers left old old (Err why)
tokens_stopped left old (stop.Set why) t = absurd t
tokens_stopped left old (stop.Fault fault) t = absurd t
tokens_stopped left old (stop.Data why) t = (refl, t)
tokens_stopped left old stop.Read t = refl
tokens_stopped left old stop.Write t = absurd t
tokens_stopped left old stop.NoTemplate t = absurd t
tokens_stopped left old stop.Memory t = refl

-- what was written is of a page within the limit
pub whole_page : (left old new : Option (List ℕ)) → WritesTokens left old new → IfSome left IsPageWithin
whole_page None old new w = tt
whole_page (Some page) old new w = w.0

part_page : (left old new : Option (List ℕ)) → WritesTokensPart left old new → IfSome left IsPageWithin
part_page None old new w = tt
part_page (Some page) old new w = w.0

refused_page : (left : Option (List ℕ)) (why : DataRefused) → IsPageRefusedFor left why → IfSome left IsPageTooLong
refused_page left (TooLong len) r = r
refused_page left TooDeep r = absurd r
refused_page left NotJson r = absurd r
refused_page left (NotWhole path) r = absurd r
refused_page left Memory r = absurd r

refused_line : (left : Option (List ℕ)) (why : DataRefused) → IsPageRefusedFor left why → TokensLines status.DataRefused (stop_text (stop.Data why) [])
refused_line left (TooLong len) r = refl
refused_line left TooDeep r = absurd r
refused_line left NotJson r = absurd r
refused_line left (NotWhole path) r = absurd r
refused_line left Memory r = absurd r

own_output : (left old new : Option (List ℕ)) (why : CommandStop) → ListTokensAnswers left old new (Err why) → TokensOutput left old new (status_for why)
own_output left old new (stop.Set why) a = absurd a
own_output left old new (stop.Fault fault) a = absurd a
own_output left old new (stop.Data why) a = a.0
own_output left old new stop.Read a = a
own_output left old new stop.Write a = a
own_output left old new stop.NoTemplate a = absurd a
own_output left old new stop.Memory a = a

unwritten : (left old new : Option (List ℕ)) (why : CommandStop) → ListTokensAnswers left old new (Err why) → why ≢ stop.Write → new ≡ old
unwritten left old new (stop.Set why) a not = absurd a
unwritten left old new (stop.Fault fault) a not = absurd a
unwritten left old new (stop.Data why) a not = a.0
unwritten left old new stop.Read a not = a
unwritten left old new stop.Write a not = absurd (not refl)
unwritten left old new stop.NoTemplate a not = absurd a
unwritten left old new stop.Memory a not = a

pub tokens_output : (left old new : Option (List ℕ)) (why : CommandStop) (s : Status) → ListTokensAnswers left old new (Err why) → IsReported why s
    → IsPlain why s → TokensOutput left old new s
tokens_output left old new why s a r plain =
    reported_plain (TokensOutput left old new) why s r plain (own_output left old new why a) (unwritten left old new why a)

own_cause : (left old new : Option (List ℕ)) (why : CommandStop) → ListTokensAnswers left old new (Err why) → TokensCause left (status_for why)
own_cause left old new (stop.Set why) a = absurd a
own_cause left old new (stop.Fault fault) a = absurd a
own_cause left old new (stop.Data why) a = refused_page left why a.1
own_cause left old new stop.Read a = tt
own_cause left old new stop.Write a = part_page left old new a
own_cause left old new stop.NoTemplate a = absurd a
own_cause left old new stop.Memory a = tt

pub tokens_cause : (left old new : Option (List ℕ)) (why : CommandStop) (s : Status) → ListTokensAnswers left old new (Err why) → IsReported why s
    → TokensCause left s
tokens_cause left old new why s a r = reported (TokensCause left) why s r (own_cause left old new why a) tt

own_lines : (left old new : Option (List ℕ)) (why : CommandStop) → ListTokensAnswers left old new (Err why) → TokensLines (status_for why) (stop_text why [])
own_lines left old new (stop.Set why) a = absurd a
own_lines left old new (stop.Fault fault) a = absurd a
own_lines left old new (stop.Data why) a = refused_line left why a.1
own_lines left old new stop.Read a = refl
own_lines left old new stop.Write a = refl
own_lines left old new stop.NoTemplate a = absurd a
own_lines left old new stop.Memory a = refl

-- the lines of the status were written
abbrev SaysTokens : Status → Option (List ℕ) → Option (List ℕ) → Type 0
SaysTokens s old new = (text : List ℕ) × TokensLines s text × Appends old new text

says : (left old new said known : Option (List ℕ)) (why : CommandStop) (s : Status) → ListTokensAnswers left old new (Err why) → Says why [] s said known
    → SaysTokens s said known
says left old new said known why s a (inl e) =
    (stop_text why [], subst (λ (x : Status). TokensLines x (stop_text why [])) (sym e.0) (own_lines left old new why a), e.1)
says left old new said known why s a (inr e) =
    (stop_text stop.Memory [], subst (λ (x : Status). TokensLines x (stop_text stop.Memory [])) (sym e.0) refl, e.1)

pub tokens_says : (left old new said known : Option (List ℕ)) (why : CommandStop) (s : Status) (rose : Type 0) → ListTokensAnswers left old new (Err why)
    → rose ⊎ Says why [] s said known → rose ⊎ SaysTokens s said known
tokens_says left old new said known why s rose a (inl r) = inl r
tokens_says left old new said known why s rose a (inr e) = inr (says left old new said known why s a e)

-- a page is not both within the limit and too long
not_both : {A : Type 0} (page : List ℕ) → IsPageWithin page → IsPageTooLong page → A
not_both page h k = absurd (omega (arith, h, k))

too_long : (left : Option (List ℕ)) (i : Type 0) (s : Status) → TokensCause left s → (s ≡ status.ReadFault → i)
    → IfSome left (λ page. IsPageTooLong page → Ends status.DataRefused i s)
too_long None i s c r = tt
too_long (Some page) i status.Ok c r = λ long. not_both page c long
too_long (Some page) i status.SetRefused c r = absurd c
too_long (Some page) i status.Usage c r = absurd c
too_long (Some page) i status.NetFault c r = absurd c
too_long (Some page) i status.SpawnFault c r = absurd c
too_long (Some page) i status.SeatFault c r = absurd c
too_long (Some page) i status.ExecFault c r = absurd c
too_long (Some page) i status.DataRefused c r = λ long. inl refl
too_long (Some page) i status.ReadFault c r = λ long. inr (inl (refl, r refl))
too_long (Some page) i status.WriteFault c r = λ long. not_both page c long
too_long (Some page) i status.NoTemplate c r = absurd c
too_long (Some page) i status.Memory c r = λ long. inr (inr refl)

complete : (left : Option (List ℕ)) (i o : Type 0) (s : Status) → TokensCause left s → (s ≡ status.ReadFault → i) → (s ≡ status.WriteFault → o)
    → IfSome left (λ page. IsPageWithin page → Ends status.Ok i s ⊎ ((s ≡ status.WriteFault) × o))
complete None i o s c r w = tt
complete (Some page) i o status.Ok c r w = λ is. inl (inl refl)
complete (Some page) i o status.SetRefused c r w = absurd c
complete (Some page) i o status.Usage c r w = absurd c
complete (Some page) i o status.NetFault c r w = absurd c
complete (Some page) i o status.SpawnFault c r w = absurd c
complete (Some page) i o status.SeatFault c r w = absurd c
complete (Some page) i o status.ExecFault c r w = absurd c
complete (Some page) i o status.DataRefused c r w = λ is. not_both page is c
complete (Some page) i o status.ReadFault c r w = λ is. inl (inr (inl (refl, r refl)))
complete (Some page) i o status.WriteFault c r w = λ is. inr (refl, w refl)
complete (Some page) i o status.NoTemplate c r w = absurd c
complete (Some page) i o status.Memory c r w = λ is. inl (inr (inr refl))

pub tokens_exact : (left : Option (List ℕ)) (i o : Type 0) (s : Status) → TokensCause left s → (s ≡ status.ReadFault → i) → (s ≡ status.WriteFault → o)
    → TokensExact left i o s
tokens_exact left i o s c r w = record { too_long = too_long left i s c r; complete = complete left i o s c r w; read = r }
