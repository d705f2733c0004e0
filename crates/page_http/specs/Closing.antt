-- When a connection ends with the reply (RFC 9112, section 9).
use Rattle.std.specs.Prelude.{ℕ, Bool, ◌&&◌, ◌||◌, ◌==◌, List, drop, codes}
use Rattle.std.specs.List.{list_all, list_any, prefix_len}
use Rattle.std.specs.Str.{bytes_eq}
use Rattle.httparse.specs.Grammar.{is_ows}
use Rattle.page_http.specs.Fields.{begins_with_name, values, list_elements}

-- the bytes without the white space before them
abbrev pub after_ows : List ℕ → List ℕ
after_ows bytes = drop (prefix_len is_ows bytes) bytes

-- OWS "close" OWS, in any case (RFC 9110, sections 5.6.3 and 7.6.1)
abbrev pub is_close_option : List ℕ → Bool
is_close_option element =
    begins_with_name (after_ows element) (codes "close")
    && list_all is_ows (drop 5 (after_ows element))

-- a value of `Connection` lists `close`
abbrev pub lists_close : List ℕ → Bool
lists_close value = list_any is_close_option (list_elements value)

-- the connection ends with the reply to this method: a client that sent HEAD reads no body of it
-- (RFC 9110, section 9.3.2), and one that sent CONNECT may take what follows it for the tunnel
abbrev pub is_last_method : List ℕ → Bool
is_last_method method = bytes_eq method (codes "HEAD") || bytes_eq method (codes "CONNECT")

-- HTTP/1.0 may keep a connection open by `keep-alive` (RFC 9112, section 9.3): this server never
-- does, whatever the fields say
abbrev pub ends_connection : ℕ → List ℕ → List (List ℕ × List ℕ) → Bool
ends_connection minor method fields =
    minor == 0 || is_last_method method || list_any lists_close (values (codes "connection") fields)
