-- What bytes write that were pending back in the element `style` and have come to nothing, by the scan state of its style.
use Rattle.std.proofs.Common.{◌≡◌, ℕ, Bool, true, false, codes, List, [], ◌∷◌, ◌++◌, ◌⊎◌, inl, inr, refl, sym, ap, ◌∙◌, true≢false}
use Rattle.std.proofs.lemmas.List.{append-nil, append_assoc}
use Rattle.std.specs.Char.{is_ascii_alphabetic}
use Rattle.std.specs.List.{list_all}
use Rattle.std.specs.Prelude.{⊤}
use Rattle.css_lexer.specs.Classes.{style_class}
use Rattle.css_lexer.specs.declared.class.StyleClass.{StyleClass}
use Rattle.css_lexer.specs.declared.class.StyleClass.TheVariants as class
use Rattle.css_step.specs.StyleScans.{StyleScan, ScanSolidus, ScanComment, ScanStarBefore, style_scan_next}
use Rattle.html_scan.specs.Scans.{style_feeding}
use Rattle.place_core.specs.page.Contents.{pending_bytes}
use Rattle.place_core.specs.page.States.{Pending, Nothing, PendingLess, LessAtCut, PendingName, PendingBang, PendingBangDash, PendingOpening}
use Rattle.place_core.specs.page.Tags.{feed_bytes}
use Rattle.text_norm.proofs.StyleScanWaits.{ScanOpens, scan-opens-or-not, scan-waits}
use Rattle.text_norm.proofs.StyleWaits.{NoStars, end-tag-no-stars, is_star, less-class}
use Rattle.text_norm.specs.Kept.{is_style_comment, solidus_kept}
use Rattle.text_norm.specs.Scanned.{scan_writing, style_scan_cut_out, style_scan_out}
use Rattle.text_norm.specs.Written.{released_out}

abbrev pub fed : StyleScan → List ℕ → StyleScan
fed s bytes = feed_bytes style_feeding s bytes

abbrev pub wrote : StyleScan → List ℕ → List ℕ
wrote s bytes = released_out scan_writing s bytes

-- A `*` alone opens a comment.
not-opened : (s : StyleScan) (c : StyleClass) → is_star c ≡ false → ScanOpens s c → ⊥
not-opened ScanSolidus class.Asterisk n o = true≢false n
not-opened s c n o = o

opens-not : (s z : StyleScan) (c : StyleClass) → is_star c ≡ false → (is_style_comment z ≡ false) ⊎ ScanOpens s c → is_style_comment z ≡ false
opens-not s z c n (inl h) = h
opens-not s z c n (inr o) = absurd (not-opened s c n o)

none-opened : (s : StyleScan) (b : ℕ) → is_star (style_class b) ≡ false → is_style_comment s ≡ false → is_style_comment (style_scan_next s (style_class b) b) ≡ false
none-opened s b k n = opens-not s (style_scan_next s (style_class b) b) (style_class b) k (scan-opens-or-not s (style_class b) b n)

pub no-comment-behind : (bs : List ℕ) (s : StyleScan) → NoStars bs → is_style_comment s ≡ false → is_style_comment (fed s bs) ≡ false
no-comment-behind [] s k n = n
no-comment-behind (b ∷ bs) s k n = no-comment-behind bs (style_scan_next s (style_class b) b) k.1 (none-opened s b k.0 n)

pub written-behind : (bs : List ℕ) (s : StyleScan) → NoStars bs → is_style_comment s ≡ false → solidus_kept s ++ bs ≡ wrote s bs ++ solidus_kept (fed s bs)
written-behind [] s k n = append-nil (solidus_kept s)
written-behind (b ∷ bs) s k n =
    let more = style_scan_next s (style_class b) b in
    let out = style_scan_out s (style_class b) b in
    let m = none-opened s b k.0 n in
    sym (append_assoc (solidus_kept s) (b ∷ []) bs)
    ∙ ap (λ (z : List ℕ). z ++ bs) (scan-waits s b n m)
    ∙ append_assoc out (solidus_kept more) bs
    ∙ ap (λ (z : List ℕ). out ++ z) (written-behind bs more k.1 m)
    ∙ sym (append_assoc out (wrote more bs) (solidus_kept (fed more bs)))

-- In a comment they write nothing, and the comment goes on.
abbrev pub IsHidden : StyleScan → List ℕ → Type 0
IsHidden s bs = (is_style_comment (fed s bs) ≡ true) × (wrote s bs ≡ [])

hidden-class : (c : StyleClass) (b : ℕ) (bs : List ℕ) → style_class b ≡ c → is_star c ≡ false → IsHidden (ScanComment false) bs → IsHidden (ScanComment false) (b ∷ bs)
hidden-class class.Asterisk b bs e n h = absurd (true≢false n)
hidden-class c b bs e n h = rw e h

hidden-bytes : (bs : List ℕ) → NoStars bs → IsHidden (ScanComment false) bs
hidden-bytes [] k = (refl, refl)
hidden-bytes (b ∷ bs) k = hidden-class (style_class b) b bs refl k.0 (hidden-bytes bs k.1)

pub hidden-behind : (bs : List ℕ) (s : StyleScan) → NoStars bs → is_style_comment s ≡ true → IsHidden s (60 ∷ bs)
hidden-behind bs (ScanComment true) k n = rw less-class (hidden-bytes bs k)
hidden-behind bs (ScanComment false) k n = rw less-class (hidden-bytes bs k)
hidden-behind bs ScanStarBefore k n = rw less-class (hidden-bytes bs k)
hidden-behind bs s k n = absurd (true≢false (sym n))

-- what waits is a `/` or nothing, and nothing in a comment
pub comment-keeps-nothing : (s : StyleScan) → is_style_comment s ≡ true → solidus_kept s ≡ []
comment-keeps-nothing ScanSolidus n = absurd (true≢false (sym n))
comment-keeps-nothing s n = refl

pub kept-or-not : (s : StyleScan) → (solidus_kept s ≡ []) ⊎ (solidus_kept s ≡ 47 ∷ [])
kept-or-not ScanSolidus = inr refl
kept-or-not s = inl refl

-- and it is what is written where a text ends, but for the space of a comment
pub cut-writes : (s : StyleScan) → is_style_comment s ≡ false → style_scan_cut_out s ≡ solidus_kept s
cut-writes (ScanComment star) n = absurd (true≢false n)
cut-writes ScanStarBefore n = absurd (true≢false n)
cut-writes s n = refl

pub comment-cut : (s : StyleScan) → is_style_comment s ≡ true → style_scan_cut_out s ≡ codes " "
comment-cut (ScanComment star) n = refl
comment-cut ScanStarBefore n = refl
comment-cut s n = absurd (true≢false (sym n))

-- What may be the end tag: letters, behind a `</`; there is no `*` in it, outside of comments and in one.
abbrev pub MayEnd : Pending → Type 0
MayEnd Nothing = ⊤
MayEnd PendingLess = ⊤
MayEnd (PendingName letters) = list_all is_ascii_alphabetic letters ≡ true
MayEnd h = ⊥

abbrev pub FedBytes : Bool → StyleScan → List ℕ → Type 0
FedBytes true s bytes = IsHidden s bytes
FedBytes false s bytes = NoStars bytes

less-no-star : NoStars (60 ∷ [])
less-no-star = (ap is_star less-class, tt)

fed-less : (comment : Bool) (s : StyleScan) (bytes : List ℕ) → is_style_comment s ≡ comment → NoStars (60 ∷ bytes) → FedBytes comment s (60 ∷ bytes)
fed-less true s bytes n k = hidden-behind bytes s k.1 n
fed-less false s bytes n k = k

fed-nothing : (comment : Bool) (s : StyleScan) → is_style_comment s ≡ comment → FedBytes comment s []
fed-nothing true s n = (n, refl)
fed-nothing false s n = tt

pub fed-pending : (h : Pending) (comment : Bool) (s : StyleScan) → MayEnd h → is_style_comment s ≡ comment → FedBytes comment s (pending_bytes h)
fed-pending Nothing comment s i n = fed-nothing comment s n
fed-pending PendingLess comment s i n = fed-less comment s [] n less-no-star
fed-pending (PendingName letters) comment s i n = fed-less comment s (47 ∷ letters) n (end-tag-no-stars letters i)
fed-pending LessAtCut comment s i n = absurd i
fed-pending PendingBang comment s i n = absurd i
fed-pending PendingBangDash comment s i n = absurd i
fed-pending (PendingOpening letters) comment s i n = absurd i

-- what is written where the text ends
pub cut-behind : (bs : List ℕ) (s : StyleScan) → NoStars bs → is_style_comment s ≡ false → wrote s bs ++ style_scan_cut_out (fed s bs) ≡ solidus_kept s ++ bs
cut-behind bs s k n = ap (λ (xs : List ℕ). wrote s bs ++ xs) (cut-writes (fed s bs) (no-comment-behind bs s k n)) ∙ sym (written-behind bs s k n)

pub hidden-cut : (bs : List ℕ) (s : StyleScan) → IsHidden s bs → wrote s bs ++ style_scan_cut_out (fed s bs) ≡ codes " "
hidden-cut bs s h = rw (h.1, comment-cut (fed s bs) h.0) refl
