mod ReadBack
mod Spelled
mod Chunks
mod Turning
mod Standing
mod Shown
