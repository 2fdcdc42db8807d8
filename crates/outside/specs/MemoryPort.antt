-- The port in memory, as contracts see it.
use Rattle.std.specs.Prelude.{ℕ, Bool, false, ◌&&◌, ◌||◌, List, ◌++◌, drop, length, map, nat_lt, not, is_none, slice_get, ◌-◌, Option, None}
use Rattle.std.specs.Prelude.{Some, option_map, Result, Vec}
use Rattle.std.specs.declared.alloc.Global.{Global}
use Rattle.outside.specs.declared.calls.Calls.{Calls}
use Rattle.outside.specs.declared.memory_port.HeldTalk.{HeldTalk}
use Rattle.outside.specs.Memory.{is_named, after_call}
use Rattle.outside.specs.Port.{Talk, talks_begun}

pub record PortInMemory : Type 0 where
  -- the frames of the connections left
  pub left : List (List ℕ)
  -- the frames that were taken, each with its answer
  pub talks : List Talk
  -- which of its calls fail, counted from 0
  pub fails : List ℕ
  -- the calls made of it, and its faults
  pub calls : Calls

-- the talks as they are held
abbrev pub talk_of : HeldTalk → Talk
talk_of held = record { frame = held.frame.items; reply = option_map (λ reply. reply.items) held.reply }

abbrev pub talks_of : List HeldTalk → List Talk
talks_of held = map talk_of held

-- the answer of a talk
abbrev pub reply_of : Option Talk → Option (List ℕ)
reply_of None = None
reply_of (Some talk) = talk.reply

-- whether there is a talk, and it has no answer yet
abbrev pub is_open : Option Talk → Bool
is_open None = false
is_open (Some talk) = is_none talk.reply

-- whether the talk that was begun last has no answer yet
abbrev pub awaits_answer : List Talk → Bool
awaits_answer talks = is_open (slice_get talks (length talks - 1))

-- whether the next call is a named one
abbrev pub is_named_call : PortInMemory → Bool
is_named_call port = is_named port.fails port.calls.made

-- whether the next call fails if it is a take: without a connection it gives none
abbrev pub take_fails : PortInMemory → Bool
take_fails port = nat_lt 0 (length port.left) && is_named_call port

-- whether the next call fails if it is an answer
abbrev pub answer_fails : PortInMemory → Bool
answer_fails port = is_named_call port || not (awaits_answer port.talks)

-- the port after a take: the next connection is used up, whatever the take answers
abbrev pub after_take : {E : Type 0} → PortInMemory → Result (Option (Vec ℕ Global)) E → PortInMemory
after_take port result =
    record port { left = drop 1 port.left; talks = port.talks ++ talks_begun result; calls = after_call (take_fails port) port.calls }

-- the port after an answer that left these talks
abbrev pub after_answer : PortInMemory → List Talk → PortInMemory
after_answer port talks = record port { talks = talks; calls = after_call (answer_fails port) port.calls }
