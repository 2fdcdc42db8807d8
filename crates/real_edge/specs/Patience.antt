-- For how long an address is waited for.
use Rattle.std.specs.Prelude.{◌≡◌, ◌⊎◌, ℕ, ◌*◌, min, List, if◌then◌else◌, Bool, true, false, Option, None, Some, Result, Ok, Err}
use Rattle.world_rules.specs.declared.asking.Peer.{Peer}
use Rattle.world_rules.specs.declared.asking.Peer.TheVariants.{Server, Surrogate}
use Rattle.real_edge.specs.Addresses.{is_among, with_address, without_address}
use Rattle.real_edge.specs.declared.missed.Missed.{Missed}
use Rattle.real_edge.specs.declared.missed.Missed.TheVariants.{NoForm, NoName, NoLookup, NoConnection, Broken, Silent, Closed}
use Rattle.real_edge.specs.declared.missed.Missed.TheVariants.{OtherNode, OtherVersion, NoReply, Unsealed, NoKey, Oversize, Memory}

-- for how many seconds the first byte of an answer is waited for
abbrev pub silence_seconds : ℕ
silence_seconds = 30

-- for how many seconds a surrogate may run a command and answer
abbrev pub command_seconds : ℕ
command_seconds = 600

-- for how many milliseconds an address that refused a connection is left alone
abbrev pub pause_millis : ℕ
pause_millis = 250

-- for how many milliseconds an address is left alone behind the first try that broke there
abbrev pub first_pause : ℕ
first_pause = 1000

-- and at most, behind several in a row
abbrev pub most_pause : ℕ
most_pause = 16000

-- a try broke: there was a connection, which failed, or ended before the answer was whole
abbrev pub is_break : Missed → Bool
is_break (Broken error) = true
is_break (Closed bytes) = true
is_break NoForm = false
is_break NoName = false
is_break (NoLookup error) = false
is_break (NoConnection error) = false
is_break (Silent seconds) = false
is_break OtherNode = false
is_break OtherVersion = false
is_break NoReply = false
is_break Unsealed = false
is_break NoKey = false
is_break Oversize = false
is_break Memory = false

-- how long the address is left alone behind a try that broke there, where the last tries at these broke, and the one before was
-- followed by so long a pause
abbrev pub longer_pause : List ℕ → List (List ℕ) → ℕ → ℕ
longer_pause address broken before = if is_among address broken then min (before * 2) most_pause else first_pause

-- for how long an ask of the address is put off, where these refused a connection, and the last tries at these broke, with so long a
-- pause behind them
abbrev pub pause : List ℕ → List (List ℕ) → List (List ℕ) → ℕ → ℕ
pause address refused broken behind =
    if is_among address refused then pause_millis else (if is_among address broken then behind else 0)

-- at which addresses the last tries broke, after an ask of one of which this came; memory may be wanted for one more
abbrev pub RemembersBreak : {T : Type 0} → List ℕ → Result T Missed → List (List ℕ) → List (List ℕ) → Type 0
RemembersBreak address (Ok reply) old new = new ≡ without_address address old
RemembersBreak address (Err missed) old new =
    (is_break missed ≡ true → (new ≡ with_address address old) ⊎ (new ≡ old))
    × (is_break missed ≡ false → new ≡ without_address address old)

-- and the pause behind it
abbrev pub pause_after : {T : Type 0} → List ℕ → Result T Missed → List (List ℕ) → ℕ → ℕ
pause_after address (Ok reply) broken before = before
pause_after address (Err missed) broken before = if is_break missed then longer_pause address broken before else before

-- for how many seconds an ask of the address waits, where these addresses of surrogates were silent
abbrev pub patience : Peer → List ℕ → List (List ℕ) → ℕ
patience Server address silent = silence_seconds
patience Surrogate address silent = if is_among address silent then silence_seconds else command_seconds

-- which are silent after an ask of the address to which no byte came in time
abbrev pub after_silence : Peer → List ℕ → List (List ℕ) → List (List ℕ)
after_silence Server address silent = silent
after_silence Surrogate address silent = with_address address silent

-- and after an answer
abbrev pub silent_after : Peer → List ℕ → List (List ℕ) → List (List ℕ)
silent_after Server address silent = silent
silent_after Surrogate address silent = without_address address silent

-- which were silent, after an ask of the address of which this came: an answer, none in time, or a connection that failed; memory may
-- be wanted for one more
abbrev pub RemembersSilence : {T E : Type 0} → Peer → List ℕ → Result (Option T) E → List (List ℕ) → List (List ℕ) → Type 0
RemembersSilence to address (Ok (Some reply)) old new = new ≡ silent_after to address old
RemembersSilence to address (Ok None) old new = (new ≡ after_silence to address old) ⊎ (new ≡ old)
RemembersSilence to address (Err e) old new = new ≡ old
