-- The static table: the 61 entries of RFC 7541, Appendix A.
use Rattle.std.specs.Prelude.{ℕ, ◌-◌, cond, List, [], ◌∷◌, None, codes, Option, nat_lt, slice_get}

-- A field is a name and a value.
abbrev pub Field : Type 0
Field = List ℕ × List ℕ

-- Index 1 comes first.
abbrev pub static_table : List Field
static_table =
    (codes ":authority", codes "") ∷  -- 1
    (codes ":method", codes "GET") ∷  -- 2
    (codes ":method", codes "POST") ∷  -- 3
    (codes ":path", codes "/") ∷  -- 4
    (codes ":path", codes "/index.html") ∷  -- 5
    (codes ":scheme", codes "http") ∷  -- 6
    (codes ":scheme", codes "https") ∷  -- 7
    (codes ":status", codes "200") ∷  -- 8
    (codes ":status", codes "204") ∷  -- 9
    (codes ":status", codes "206") ∷  -- 10
    (codes ":status", codes "304") ∷  -- 11
    (codes ":status", codes "400") ∷  -- 12
    (codes ":status", codes "404") ∷  -- 13
    (codes ":status", codes "500") ∷  -- 14
    (codes "accept-charset", codes "") ∷  -- 15
    (codes "accept-encoding", codes "gzip, deflate") ∷  -- 16
    (codes "accept-language", codes "") ∷  -- 17
    (codes "accept-ranges", codes "") ∷  -- 18
    (codes "accept", codes "") ∷  -- 19
    (codes "access-control-allow-origin", codes "") ∷  -- 20
    (codes "age", codes "") ∷  -- 21
    (codes "allow", codes "") ∷  -- 22
    (codes "authorization", codes "") ∷  -- 23
    (codes "cache-control", codes "") ∷  -- 24
    (codes "content-disposition", codes "") ∷  -- 25
    (codes "content-encoding", codes "") ∷  -- 26
    (codes "content-language", codes "") ∷  -- 27
    (codes "content-length", codes "") ∷  -- 28
    (codes "content-location", codes "") ∷  -- 29
    (codes "content-range", codes "") ∷  -- 30
    (codes "content-type", codes "") ∷  -- 31
    (codes "cookie", codes "") ∷  -- 32
    (codes "date", codes "") ∷  -- 33
    (codes "etag", codes "") ∷  -- 34
    (codes "expect", codes "") ∷  -- 35
    (codes "expires", codes "") ∷  -- 36
    (codes "from", codes "") ∷  -- 37
    (codes "host", codes "") ∷  -- 38
    (codes "if-match", codes "") ∷  -- 39
    (codes "if-modified-since", codes "") ∷  -- 40
    (codes "if-none-match", codes "") ∷  -- 41
    (codes "if-range", codes "") ∷  -- 42
    (codes "if-unmodified-since", codes "") ∷  -- 43
    (codes "last-modified", codes "") ∷  -- 44
    (codes "link", codes "") ∷  -- 45
    (codes "location", codes "") ∷  -- 46
    (codes "max-forwards", codes "") ∷  -- 47
    (codes "proxy-authenticate", codes "") ∷  -- 48
    (codes "proxy-authorization", codes "") ∷  -- 49
    (codes "range", codes "") ∷  -- 50
    (codes "referer", codes "") ∷  -- 51
    (codes "refresh", codes "") ∷  -- 52
    (codes "retry-after", codes "") ∷  -- 53
    (codes "server", codes "") ∷  -- 54
    (codes "set-cookie", codes "") ∷  -- 55
    (codes "strict-transport-security", codes "") ∷  -- 56
    (codes "transfer-encoding", codes "") ∷  -- 57
    (codes "user-agent", codes "") ∷  -- 58
    (codes "vary", codes "") ∷  -- 59
    (codes "via", codes "") ∷  -- 60
    (codes "www-authenticate", codes "") ∷  -- 61
    []

-- The entry at an index: there is none at 0, nor past 61.
abbrev pub static_entry : ℕ → Option Field
static_entry i = cond (nat_lt 0 i) (slice_get static_table (i - 1)) None
