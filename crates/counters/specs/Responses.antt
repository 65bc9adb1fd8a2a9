-- What is answered over HTTP (RFC 9110, RFC 9112).
use Rattle.std.specs.Prelude.{ℕ, Bool, cond, nat_eq, List, ◌++◌, codes, decimal, length}
use Rattle.std.specs.List.{starts_with, ends_with}
use Rattle.counters.specs.Exposition.{exposition}
use Rattle.counters.specs.declared.http.Answer.{Answer}
use Rattle.counters.specs.declared.stores.StoreSizes.{StoreSizes}
use Rattle.counters.specs.declared.http.Answer.TheVariants.{Metrics, NotFound, NotAllowed}

-- A request has come whole where it ends with an empty line, as one without content does (RFC 9112, section 2.1).
abbrev pub is_whole : List ℕ → Bool
is_whole request = ends_with nat_eq request (codes "\r\n\r\n")

-- The counters for `GET /metrics`, nothing for another path, and for another method.
abbrev pub answer_for : List ℕ → Answer
answer_for request =
    cond (starts_with nat_eq request (codes "GET /metrics ")) Metrics (cond (starts_with nat_eq request (codes "GET ")) NotFound NotAllowed)

-- What stands before a text of so many bytes.
abbrev pub text_head : ℕ → List ℕ
text_head n =
    codes "HTTP/1.1 200 OK\r\nContent-Type: text/plain; version=0.0.4; charset=utf-8\r\nContent-Length: " ++ decimal n
    ++ codes "\r\nConnection: close\r\n\r\n"

-- The counters' text behind its length.
abbrev pub text_response : List ℕ → List ℕ
text_response text = text_head (length text) ++ text

abbrev pub response_by : Answer → List ℕ → ℕ → StoreSizes → List ℕ
response_by Metrics cells waiting stores = text_response (exposition cells waiting stores)
response_by NotFound cells waiting stores = codes "HTTP/1.1 404 Not Found\r\nContent-Length: 0\r\nConnection: close\r\n\r\n"
response_by NotAllowed cells waiting stores = codes "HTTP/1.1 405 Method Not Allowed\r\nAllow: GET\r\nContent-Length: 0\r\nConnection: close\r\n\r\n"

abbrev pub response : List ℕ → List ℕ → ℕ → StoreSizes → List ℕ
response request cells waiting stores = response_by (answer_for request) cells waiting stores
