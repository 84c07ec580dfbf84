-- The threads that bring items and those that fetch them.
use Rattle.lwp_types.specs.declared.call.Answer.{Answer}
use Rattle.lwp_types.specs.declared.call.Answer.TheVariants as answer
use Rattle.lwp_types.specs.declared.call.Call.{Call}
use Rattle.lwp_types.specs.declared.call.Call.TheVariants as call
use Rattle.bounded_buffer.specs.declared.clients.Producer.{Producer}
use Rattle.bounded_buffer.specs.declared.clients.Consumer.{Consumer}
use Rattle.std.specs.Prelude.{[], if◌then◌else◌, ℕ, ◌-◌, ◌==◌}

-- the buffer is the first thread
abbrev pub first : ℕ
first = 0

-- a producer sends its item again and again; as it does so, the reply is as long as may be
abbrev pub produces : Producer → Call × Producer
produces producer = if producer.left == 0
    then (call.Return, producer)
    else (call.Send first 240 producer.item, record producer { left = producer.left - 1 })

-- a consumer asks for an item
abbrev pub asks : Consumer → Call × Consumer
asks consumer = if consumer.left == 0
    then (call.Return, consumer)
    else (call.Send first 240 [], record consumer { left = consumer.left - 1 })

-- a consumer says what it got, and else asks
abbrev pub consumes : Consumer → Answer → Call × Consumer
consumes consumer (answer.Reply item) = (call.Say item, consumer)
consumes consumer _ = asks consumer
