-- `compile_routes::unfed_read` meets its contract: one equation a variant.
use Rattle.compile_routes.proofs.unfed_read.Goals as goal

pub returns-in-Signal : goal.returns-in-Signal
returns-in-Signal c = rw c.in-Signal.is

pub returns-in-Audio : goal.returns-in-Audio
returns-in-Audio c = rw c.in-Audio.is

pub returns-in-Held : goal.returns-in-Held
returns-in-Held c = rw c.in-Held.is

pub returns-in-Velocity : goal.returns-in-Velocity
returns-in-Velocity c = rw c.in-Velocity.is

pub returns-in-Key : goal.returns-in-Key
returns-in-Key c = rw c.in-Key.is

pub returns-in-ReleaseVelocity : goal.returns-in-ReleaseVelocity
returns-in-ReleaseVelocity c = rw c.in-ReleaseVelocity.is

pub returns-in-Random : goal.returns-in-Random
returns-in-Random c = rw c.in-Random.is

pub returns-in-Alternate : goal.returns-in-Alternate
returns-in-Alternate c = rw c.in-Alternate.is

pub returns-in-VoiceLoad : goal.returns-in-VoiceLoad
returns-in-VoiceLoad c = rw c.in-VoiceLoad.is
