mod Moving
mod Sofar
mod Standing
