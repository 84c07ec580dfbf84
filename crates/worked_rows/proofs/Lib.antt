mod ManyThreads
mod ManyAgents
