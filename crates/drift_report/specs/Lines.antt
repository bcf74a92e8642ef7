-- A DRIFT LIST AS TEXT: a line for each record. 02, §1; "Units are 1/10,000 minute".
use Rattle.std.specs.Prelude.{ℕ, zero, suc, ◌/◌, ◌%◌, cond, List, [], ◌∷◌, ◌++◌, eqb, ℤ, pos, negsuc, nat_abs}
use Rattle.text.specs.Text.{codes, digit, decimal}
use Rattle.drift_list.specs.declared.Fix.{Fix}
use Rattle.drift_list.specs.declared.State.{State}
use Rattle.drift_list.specs.declared.State.TheVariants as state
use Rattle.drift_list.specs.Values.{fix_of}
use Rattle.drift_list.specs.Reading.{issue_of, count_of, fix_at, read_refusal}

-- state "none", "fix" or "last"
unfoldable pub state_name : State → List ℕ
state_name state.None = codes "none"
state_name state.Fix = codes "fix"
state_name state.LastKnown = codes "last"

-- signed decimals: a minus sign below 0, none from 0 up
unfoldable pub signed_decimal : ℤ → List ℕ
signed_decimal (pos n) = decimal n
signed_decimal (negsuc n) = codes "-" ++ decimal (suc n)

-- the w lowest decimal digits, zeros in front included
unfoldable pub padded : (w n : ℕ) → List ℕ
padded zero n = []
padded (suc w) n = padded w (n / 10) ++ digit (n % 10) ∷ []

-- degrees in w digits, and minutes: 600,000 units are a degree, 10,000 a minute
abbrev pub angle : (w a : ℕ) → List ℕ
angle w a = padded w (a / 600_000) ++ codes " " ++ padded 2 (a % 600_000 / 10_000) ++ codes "." ++ padded 4 (a % 10_000)

-- the first letter from 0 up, the second below
unfoldable pub side_of : (from below : List ℕ) → ℤ → List ℕ
side_of from below (pos n) = from
side_of from below (negsuc n) = below

-- "DD MM.MMMM N DDD MM.MMMM E", latitude first, "N from 0 up, S below; E from 0 up, W below"
abbrev pub place : (longitude latitude : ℤ) → List ℕ
place x y = angle 2 (nat_abs y) ++ side_of (codes " N") (codes " S") y ++ codes " " ++ angle 3 (nat_abs x) ++ side_of (codes " E") (codes " W") x

-- "empty for `none`"
unfoldable pub position : State → (longitude latitude : ℤ) → List ℕ
position state.None x y = []
position state.Fix x y = place x y
position state.LastKnown x y = place x y

-- "D HH:MM", D the day of the week from 0
abbrev pub week_time : (minute : ℕ) → List ℕ
week_time m = decimal (m / 1_440) ++ codes " " ++ padded 2 (m % 1_440 / 60) ++ codes ":" ++ padded 2 (m % 60)

-- buoy,state,longitude,latitude,minute,position,time
unfoldable pub fix_line : Fix → List ℕ
fix_line f =
    decimal f.buoy ++ codes "," ++ state_name f.state ++ codes ","
    ++ signed_decimal f.longitude ++ codes "," ++ signed_decimal f.latitude ++ codes ","
    ++ decimal f.minute ++ codes "," ++ position f.state f.longitude f.latitude ++ codes "," ++ week_time f.minute ++ codes "\n"

-- n lines from record k on
unfoldable pub fix_lines : (n k : ℕ) → (ℕ → Fix) → List ℕ
fix_lines zero k f = []
fix_lines (suc n) k f = fix_line (f k) ++ fix_lines n (suc k) f

abbrev pub list_header : List ℕ
list_header = codes "buoy,state,longitude,latitude,minute,position,time\n"

-- "list,N" where the bytes are refused with N; else "issue,ISSUE", the header, and a line for each record
unfoldable pub list_text : List ℕ → List ℕ
list_text s = cond (eqb (read_refusal s) 0)
    (codes "issue," ++ decimal (issue_of s) ++ codes "\n" ++ list_header ++ fix_lines (count_of s) 0 (λ k. fix_of (fix_at s k)))
    (codes "list," ++ decimal (read_refusal s) ++ codes "\n")
