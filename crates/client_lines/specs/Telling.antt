-- What the objects tell that a run is given, by what each of them tells of itself.
use Rattle.outside.specs.declared.source.Source.{Ghosts as SourceWords}
use Rattle.outside.specs.declared.sink.Sink.{Ghosts as SinkWords}
use Rattle.outside.specs.declared.keeper.Keeper.{Ghosts as KeeperWords}
use Rattle.cmd_capture.specs.declared.runner.Runner.{Ghosts as RunnerWords}
use Rattle.cmd_capture.specs.Runs.{telling}
use Rattle.world_rules.specs.declared.link.Link.{Ghosts as LinkWords}
use Rattle.client_lines.specs.Headline.{Around}
use Rattle.client_lines.specs.Ending.{Faults}

-- what all five tell at one moment
abbrev pub around_of : {I O K R L : Type 0} → SourceWords I → SinkWords O → KeeperWords K → RunnerWords R → LinkWords L
    → I → O → K → R → L → Around
around_of sources sinks keepers runners links source sink keeper runner link = record {
  left = sources.left source;
  written = sinks.written sink;
  images = keepers.images keeper;
  runner = telling (runners.runs runner) (runners.faults runner);
  link = links.tells link;
}

-- and how often three of them failed
abbrev pub faults_of : {I O K : Type 0} → SourceWords I → SinkWords O → KeeperWords K → I → O → K → Faults
faults_of sources sinks keepers source sink keeper =
    record { source = sources.faults source; sink = sinks.faults sink; keeper = keepers.faults keeper }
