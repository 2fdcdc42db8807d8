-- A network that is handed on as a link, and the rule that it keeps.
use Rattle.std.specs.Prelude.{◌≡◌, ◌≢◌, ◌⊎◌, ℕ, suc, ◌+◌, ◌≤◌, Bool, true, false, List, [], ◌∷◌, ◌++◌, length, if◌then◌else◌}
use Rattle.std.specs.List.{AllByRecursion}
use Rattle.tree_values.specs.Lists.{IsIn}
use Rattle.world_rules.specs.declared.asking.Ask.{Ask}
use Rattle.world_rules.specs.declared.asking.Peer.{Peer}
use Rattle.world_rules.specs.declared.asking.Peer.TheVariants.{Server, Surrogate}
use Rattle.world_rules.specs.declared.asking.Answer.{Answer}
use Rattle.world_rules.specs.declared.asking.Answer.TheVariants.{Reply, Failed, Memory}
use Rattle.world_rules.specs.Served.{Served}
use Rattle.world_rules.specs.World.{World}
use Rattle.world_rules.specs.Run.{AreAllOf}
use Rattle.mem_wires.specs.declared.fate.Fate.{Fate}
use Rattle.mem_wires.specs.declared.fate.Fate.TheVariants.{Pass, LoseRequest, LoseReply, Twice}
use Rattle.mem_wires.specs.Wire.{Wire, world_of}
use Rattle.mem_net.specs.declared.parts.NetworkParts.{NetworkParts}

-- the network that is handed on, and whether memory was wanted in one of its asks
pub record Handing (R : Type 0) : Type 0 where
  pub net : NetworkParts R
  pub wanted : Bool

-- ---- fates

-- the fate passes, loses a request or a reply, or is a second delivery
abbrev pub IsPlain : Fate → Type 0
IsPlain Pass = Unit {0}
IsPlain LoseRequest = Unit {0}
IsPlain LoseReply = Unit {0}
IsPlain Twice = Unit {0}
IsPlain fate = ⊥

-- whether a request or a reply is lost
abbrev pub loses : Fate → Bool
loses LoseRequest = true
loses LoseReply = true
loses fate = false

abbrev pub lets_pass : Fate → Bool
lets_pass Pass = true
lets_pass fate = false

-- one of four passes
abbrev pub OnePasses : Fate → Fate → Fate → Fate → Type 0
OnePasses a b c d = (lets_pass a ≡ true) ⊎ (lets_pass b ≡ true) ⊎ (lets_pass c ≡ true) ⊎ (lets_pass d ≡ true)

-- of any four of these fates in a row one passes
abbrev pub FourPass : List Fate → Type 0
FourPass (a ∷ b ∷ c ∷ d ∷ fates) = OnePasses a b c d × FourPass (b ∷ c ∷ d ∷ fates)
FourPass fates = Unit {0}

-- how many fates at the front lose
abbrev pub losses : List Fate → ℕ
losses [] = 0
losses (fate ∷ fates) = if loses fate then suc (losses fates) else 0

-- ---- asks

abbrev pub answer_failed : Answer → Bool
answer_failed Failed = true
answer_failed (Reply reply) = false
answer_failed Memory = false

abbrev pub is_failure_of : Peer → Answer → Bool
is_failure_of Server answer = answer_failed answer
is_failure_of Surrogate answer = false

-- whether the server was asked, and the ask failed
abbrev pub is_server_failure : Ask → Bool
is_server_failure ask = is_failure_of ask.to ask.answer

-- how many such asks stand at the end, where so many stood there before these
abbrev pub failures_behind : ℕ → List Ask → ℕ
failures_behind count [] = count
failures_behind count (ask ∷ asks) = failures_behind (if is_server_failure ask then suc count else 0) asks

-- how many of the last asks were of the server and failed
abbrev pub last_failures : List Ask → ℕ
last_failures asks = failures_behind 0 asks

-- at no time were the failed asks of the server at the end of the asks more than three
abbrev pub WereFew : List Ask → Type 0
WereFew asks = (earlier later : List Ask) → asks ≡ earlier ++ later → last_failures earlier ≤ 3

-- ---- the rule

-- the last number of each client but this one is 0
abbrev pub HasNoOthers : ℕ → Served → Type 0
HasNoOthers client served = (other : ℕ) → other ≢ client → served.last other ≡ 0

-- Each fate left is plain, and of any four in a row one passes; the failed asks of the server at the end of the asks and the losing fates
-- at the front are at most three, and so were the failed asks at any time; and nothing taken is of another client.
pub record IsByRule (world : World) (fates : List Fate) : Type 0 where
  pub plain : AllByRecursion IsPlain fates
  pub spread : FourPass fates
  pub few : last_failures world.asks + losses fates ≤ 3
  pub were : WereFew world.asks
  pub own : AreAllOf world.client world.taken

-- While memory was wanted in no ask, it is so.
abbrev pub KeepsRule : Bool → Wire → Type 0
KeepsRule wanted wires = wanted ≡ false → IsByRule (world_of wires) wires.fates

-- ---- law

-- So of any four asks in a row one is not of the server or did not fail.
abbrev pub FewAsksFailInARow : Type 0
FewAsksFailInARow = (world : World) (fates : List Fate) → IsByRule world fates
    → (earlier row later : List Ask) → world.asks ≡ earlier ++ row ++ later → length row ≡ 4
    → (ask : Ask) × IsIn ask row × (is_server_failure ask ≡ false)
