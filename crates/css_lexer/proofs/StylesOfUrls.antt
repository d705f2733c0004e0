-- The URLs of attributes, as those of styles, have what styles need of them.
use Rattle.std.proofs.Common.{◌≡◌, [], Option, Some, None, refl}
use Rattle.css_lexer.proofs.StylesKeep.{some, styles-keep}
use Rattle.css_lexer.specs.Laws.{UrlReadingLaws, StyleLaws}
use Rattle.css_lexer.specs.Urls.{urls, url_refusal, url_cut_refusal}
use Rattle.url_lexer.specs.Events.{UrlEvent}
use Rattle.url_lexer.specs.Laws.{UrlLanguageLaws}
use Rattle.url_lexer.specs.Refusals.{UrlRefusal, UrlCutRefusal}
use Rattle.url_lexer.specs.States.{Url}

not-refused : (o : Option UrlRefusal) → url_refusal o ≡ None → o ≡ None
not-refused None n = refl
not-refused (Some r) n = absurd (some _ n)

not-cut : (o : Option UrlCutRefusal) → url_cut_refusal o ≡ None → o ≡ None
not-cut None n = refl
not-cut (Some r) n = absurd (some _ n)

pub urls-keep : UrlLanguageLaws → UrlReadingLaws Url UrlEvent urls
urls-keep l = record {
  begins = l.begins;
  emits = λ u w b a n. l.emits u w b [] a (not-refused _ n);
  feeds = λ u w b a n. l.feeds u w b a (not-refused _ n);
  ends = λ u w a. l.ends u w [] a;
  after_cut = λ u w a n. l.after_cut u w a (not-cut _ n);
  hole = λ u w after a p. l.hole u w after a p;
}

pub styles-of-urls-keep : UrlLanguageLaws → StyleLaws Url UrlEvent urls
styles-of-urls-keep l = styles-keep (urls-keep l)
